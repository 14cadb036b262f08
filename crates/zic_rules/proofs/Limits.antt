-- What a sound zone shows is within its limits.
use Rattle.std.proofs.Common.{◌≡◌, ◌≤◌, ◌⊎◌, inl, inr, ⊎_elim, ℕ, zero, suc, List, sym, ap, subst, arith}
use Rattle.std.specs.Prelude.{ℤ, pos, ◌+ℤ◌, unsigned_abs}
use Rattle.std.proofs.lemmas.Bool.{cases_Bool, cases_lt}
use Rattle.std.proofs.lemmas.Int.{ints}
use Rattle.zic_base.specs.State.{Shown}
use Rattle.zic_base.specs.declared.fault.Kind.TheVariants as kind
use Rattle.zic_lines.specs.declared.rule_line.Rule.{Rule}
use Rattle.zic_lines.specs.declared.rules.Rules.{Rules}
use Rattle.zic_lines.specs.declared.rules.Rules.TheVariants.{Standard, Amount, Set}
use Rattle.zic_lines.specs.declared.zone_line.ZoneLine.{ZoneLine}
use Rattle.zic_source.specs.Sound.{IsSoundSource}
use Rattle.zic_lines.specs.declared.time.TheConstants.{GREATEST_OFFSET}
use Rattle.zic_lines.specs.Limits.{is_abbreviation, IsWithinLimits}
use Rattle.zic_states.specs.Fault.{IsSavingOf, IsSound}
use Rattle.zic_states.specs.InForce.{InForce, RulesHaveInForce}
use Rattle.zic_states.specs.Zone.{Zone, HasInForce, Shows}
use Rattle.zic_states.proofs.Lines.{orderly, sound_line}
use Rattle.zic_rules.specs.Laws.{ShowsWithinLimits}

-- what is saved is a saving of RULES, or nothing
saving_of : (rules : List Rule) (line : ZoneLine) (says : Rules) (IsSuch : ℤ → Type 0) (in_force : InForce) → RulesHaveInForce rules line says IsSuch in_force
    → IsSavingOf rules says in_force.saving ⊎ (in_force.saving ≡ pos 0)
saving_of rules line Standard IsSuch in_force e = inl (ap (λ (k : InForce). k.saving) e)
saving_of rules line (Amount amount) IsSuch in_force e = inl (ap (λ (k : InForce). k.saving) e)
saving_of rules line (Set name) IsSuch in_force (inl (o, last, e)) = inl (o.number, o.rule, last.is.member, ap (λ (k : InForce). k.saving) e)
saving_of rules line (Set name) IsSuch in_force (inr none) = inr none.1

saved_by : (zone : Zone) (i : ℕ) (line : ZoneLine) (t : ℤ) (in_force : InForce) → HasInForce zone i line t in_force
    → IsSavingOf zone.source.rules line.rules in_force.saving ⊎ (in_force.saving ≡ pos 0)
unfolding HasInForce
saved_by zone zero line t in_force keeps = saving_of zone.source.rules line line.rules _ in_force keeps
saved_by zone (suc i) line t in_force (end, window, keeps) = saving_of zone.source.rules line line.rules _ in_force keeps

module _ (zone : Zone) (source : IsSoundSource zone.source) (sound : IsSound zone) (t : ℤ) (state : Shown) (shows : Shows zone t state) where
  offset_within : unsigned_abs (shows.line.offset +ℤ shows.in_force.saving) ≤ GREATEST_OFFSET
  offset_within = ⊎_elim
      (λ is. elim (cases_lt GREATEST_OFFSET (unsigned_abs (shows.line.offset +ℤ shows.in_force.saving))) [
        | inl passes ↦ absurd (sound kind.OffsetRange record {
          number = shows.keeps.number;
          line = shows.line;
          is_line = shows.keeps.governs.is_line;
          saving = shows.in_force.saving;
          is_saving = is;
          passes = passes;
        })
        | inr within ↦ within
      ])
      (λ none.
      let within = (sound_line zone (orderly zone source sound).sets shows.keeps.number shows.line shows.keeps.governs.is_line).offset in
      omega (arith, ints, within, none))
      (saved_by zone shows.keeps.number shows.line t shows.in_force shows.keeps.keeps)

  within_limits : IsWithinLimits state
  within_limits = record {
    offset = subst (λ (o : ℤ). unsigned_abs o ≤ GREATEST_OFFSET) (sym shows.offset) offset_within;
    name = elim (cases_Bool (is_abbreviation state.name)) [
      | inl is ↦ is
      | inr breaks ↦ absurd (sound kind.BadAbbreviation record { t = t; state = state; shows = shows; breaks = breaks })
    ];
  }

pub shows_within_limits : ShowsWithinLimits
shows_within_limits zone source sound t state shows = within_limits zone source sound t state shows
