-- A source that is read has one first fault as a whole.
use Rattle.std.proofs.Common.{◌≡◌, ℕ, ⊎_elim, List, refl, sym, subst, ◌∙◌}
use Rattle.zic_base.specs.declared.fault.Place.{Place}
use Rattle.zic_base.specs.declared.fault.Fault.{Fault}
use Rattle.zic_base.specs.declared.fault.Kind.{Kind}
use Rattle.zic_base.specs.declared.fault.Kind.TheVariants.{UnknownRules, UnknownTarget, LinkCycle}
use Rattle.zic_source.specs.Event.{events_of}
use Rattle.zic_source.specs.Source.{SourceLines}
use Rattle.zic_source.specs.Links.{EndsNowhere}
use Rattle.zic_source.specs.Grammar.{IsReadable}
use Rattle.zic_source.specs.Whole.{HasAt, HasFirst}
use Rattle.zic_source.proofs.links.NamesDiffer.{nowhere_ends}
use Rattle.zic_source.proofs.faults.Order.{ordered}
use Rattle.zic_source.proofs.reading.Read.{Read, is_read}
use Rattle.zic_source.proofs.reading.Places.{one_link, no_link}
use Rattle.zic_source.proofs.reading.Stops.{same_fault}

module _ (texts : List (List ℕ)) (source : SourceLines) (is : IsReadable texts source) where
  read : Read (events_of texts) source
  read = is_read (events_of texts) source is

  one_kind : (place : Place) (a b : Kind) → HasAt source place a → HasAt source place b → a ≡ b
  one_kind place UnknownRules UnknownRules has has' = refl
  one_kind place UnknownRules UnknownTarget (line, at, same, _) (link, at', same', _) = absurd (no_link texts source read line link at at' (same ∙ sym same'))
  one_kind place UnknownRules LinkCycle (line, at, same, _) (link, at', same', _) = absurd (no_link texts source read line link at at' (same ∙ sym same'))
  one_kind place UnknownTarget UnknownRules (link, at', same', _) (line, at, same, _) = absurd (no_link texts source read line link at at' (same ∙ sym same'))
  one_kind place UnknownTarget UnknownTarget has has' = refl
  one_kind place UnknownTarget LinkCycle (k, at, same, nowhere) (l, at', same', never) = absurd (nowhere_ends source l (subst (EndsNowhere source) (one_link texts source read k l at at' (same ∙ sym same')) nowhere) never)
  one_kind place LinkCycle UnknownRules (link, at', same', _) (line, at, same, _) = absurd (no_link texts source read line link at at' (same ∙ sym same'))
  one_kind place LinkCycle UnknownTarget (k, at, same, never) (l, at', same', nowhere) = absurd (nowhere_ends source k (subst (EndsNowhere source) (one_link texts source read l k at' at (same' ∙ sym same)) nowhere) never)
  one_kind place LinkCycle LinkCycle has has' = refl
  one_kind place UnknownRules _ has has' = absurd has'
  one_kind place UnknownTarget _ has has' = absurd has'
  one_kind place LinkCycle _ has has' = absurd has'
  one_kind place _ b has has' = absurd has

  pub one_first : (a b : Fault) → HasFirst source a → HasFirst source b → a ≡ b
  one_first a b first_a first_b = ⊎_elim
      (λ place. same_fault a b place (one_kind b.place a.kind b.kind (subst (λ (p : Place). HasAt source p a.kind) place first_a.has) first_b.has))
      (λ apart. absurd (⊎_elim (λ before. first_b.first a.place a.kind first_a.has before) (λ after. first_a.first b.place b.kind first_b.has after) apart))
      (ordered a.place b.place)
