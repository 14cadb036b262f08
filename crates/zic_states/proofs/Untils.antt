-- Each UNTIL of a zone whose sets are in order has an instant, and a line is over from that of its UNTIL on.
use Rattle.std.proofs.Common.{◌≡◌, ◌⊎◌, inl, inr, ℕ, ℤ, pos, ◌<ℤ◌, List, All, Option, Some, None, refl, sym, subst, arith, ◌↔◌}
use Rattle.std.specs.Option.{MatchOption}
use Rattle.std.proofs.lemmas.Int.{ints}
use Rattle.std.proofs.lemmas.Option.{MatchOption-at_some}
use Rattle.zic_lines.specs.declared.rule_line.Rule.{Rule}
use Rattle.zic_lines.specs.declared.rules.Rules.{Rules}
use Rattle.zic_lines.specs.declared.rules.Rules.TheVariants.{Standard, Amount, Set}
use Rattle.zic_lines.specs.declared.until.Until.{Until}
use Rattle.zic_lines.specs.declared.zone_line.ZoneLine.{ZoneLine}
use Rattle.zic_source.specs.Sound.{IsSoundRule, IsWithinDay}
use Rattle.zic_states.specs.Order.{IsInOrder}
use Rattle.zic_states.specs.Laws.{HasSetsInOrder, EachUntilIsRead}
use Rattle.zic_states.specs.Until.{IsSavedAtUntil, IsUntil, saved_after, set_of, until_by}
use Rattle.zic_states.specs.Zone.{Zone, line_at, IsNotOver}
use Rattle.zic_states.proofs.Lines.{sound_line, set_in_order}
use Rattle.zic_states.proofs.Ordered.{one_until}
use Rattle.zic_states.proofs.Stages.{some_stage}

some_saving : (rules : List Rule) (offset : ℤ) (until : Until) (says : Rules) → All IsSoundRule rules → IsWithinDay offset
    → ((name : List ℕ) → says ≡ Set name → IsInOrder (set_of rules name) offset) → (saved : ℤ) × IsSavedAtUntil rules offset until says saved
some_saving rules offset until Standard sound within order = (pos 0, refl)
some_saving rules offset until (Amount saving) sound within order = (saving.seconds, refl)
some_saving rules offset until (Set name) sound within order =
    let (b, read) = some_stage (set_of rules name) offset (record { sound = sound; within = within; order = order name refl }) until in
    (saved_after b, (b, read, refl))

pub untils_are_read : (zone : Zone) → HasSetsInOrder zone → EachUntilIsRead zone
untils_are_read zone sets i line until at has =
    let within = (sound_line zone sets i line at).offset in
    let (saved, is_saved) = some_saving zone.source.rules line.offset until line.rules sets.sound.rules within (set_in_order zone sets i line at) in
    (until_by line.offset until saved, record { until = until; has = has; saved = saved; is_saved = is_saved; is = refl })

pub until_or_none : (until : Option Until) → (until ≡ None) ⊎ ((u : Until) × (until ≡ Some u))
until_or_none None = inl refl
until_or_none (Some u) = inr (u, refl)

pub not_over_until : (zone : Zone) → HasSetsInOrder zone → (i : ℕ) (line : ZoneLine) (until : Until) (end : ℤ) → line_at zone i ≡ Some line
    → line.until ≡ Some until → IsUntil zone.source.rules line end → (t : ℤ) → IsNotOver zone line t ↔ (t <ℤ end)
not_over_until zone sets i line until end at has is t =
    let EndsLater : Type 0 = (e : ℤ) × IsUntil zone.source.rules line e × (t <ℤ e) in (
      λ not_over.
          let (e, is_too, lt) = MatchOption-at_some (Unit {0}) (λ _. EndsLater) until has not_over in
          let same = one_until zone.source.rules line (set_in_order zone sets i line at) e end is_too is in
          omega (arith, ints),
      λ lt. subst (λ (o : Option Until). MatchOption o (Unit {0}) (λ _. EndsLater)) (sym has) (end, is, lt),
    )
