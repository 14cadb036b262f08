-- What a zone shows for ever where fewer than two rules go on.
use Rattle.std.proofs.Common.{◌≡◌, ◌<◌, ◌≤◌, inl, inr, ℕ, List, [], ◌∷◌, length, refl, sym, subst, arith}
use Rattle.std.specs.Prelude.{ℤ, pos, ◌-ℤ◌, ◌≤ℤ◌, Contains}
use Rattle.std.proofs.lemmas.Int.{ints}
use Rattle.zic_base.specs.State.{Shown}
use Rattle.zic_lines.specs.declared.zone_line.ZoneLine.{ZoneLine}
use Rattle.zic_base.proofs.Elements.{only_one}
use Rattle.zic_states.specs.End.{IsEnd}
use Rattle.zic_states.specs.Fault.{HasNoLetter}
use Rattle.zic_states.specs.InForce.{InForce, in_force_of}
use Rattle.zic_states.specs.Laws.{IsOrderly}
use Rattle.zic_states.specs.Tail.{HasContinuing, IsOnlyContinuing, HasInForceFrom}
use Rattle.zic_states.specs.Until.{set_of}
use Rattle.zic_states.specs.Zone.{Zone, Shows}
use Rattle.zic_states.proofs.Ends.{one_end}
use Rattle.zic_states.proofs.TailChanges.{one_state_after_changes}
use Rattle.zic_states.proofs.TailForEver.{at_both}
use Rattle.zic_states.proofs.TailInForce.{by_one, by_none}
use Rattle.zic_states.proofs.TailLine.{governs_from_end, fixed_tail}
use Rattle.zic_rules.specs.Tail.{AreContinuing, HasConstantTail, IsConstantTail}
use Rattle.zic_rules.specs.declared.tail.TailRule.{TailRule}
use Rattle.zic_rules.specs.code.Tail.{HasTailRules}
use Rattle.zic_rules.proofs.TailLines.{IsFixedLine, IsSetLine, fixed_or_set}

-- from one second before the end on the zone keeps one thing
record HasOneThingInForce (zone : Zone) (end : ℤ) : Type 0 where
  pub few : HasConstantTail zone
  pub line : ZoneLine
  pub in_force : InForce
  pub from : HasInForceFrom zone (end -ℤ pos 1) line in_force

module _ (zone : Zone) (orderly : IsOrderly zone) (end : ℤ) (is_end : IsEnd zone end) (tails : List TailRule) where
  by_fixed : IsFixedLine zone tails → HasOneThingInForce zone end
  by_fixed of =
      let (in_force, from) = fixed_tail zone orderly of.number of.line of.is_last of.none in
      let governs = governs_from_end zone orderly.sets of.number of.line end (end -ℤ pos 1) of.is_last is_end (omega (arith, ints)) in
      record {
        few = record { number = of.number; line = of.line; last = of.is_last; few = inl of.none };
        line = of.line;
        in_force = in_force;
        from = from (end -ℤ pos 1) governs.begun;
      }

  module _ (of : IsSetLine zone end tails) where
    few_of : length of.numbers ≤ 1 → HasConstantTail zone
    few_of le = record {
      number = of.number;
      line = of.line;
      last = of.tail.is_last;
      few = inr (of.name, of.year, of.numbers, of.tail, of.continuing, le);
    }

    -- by the numbers of those that go on
    by_numbers : (numbers : List ℕ) → of.numbers ≡ numbers → length numbers ≤ 1 → HasOneThingInForce zone end
    by_numbers [] e le =
        let none = λ (has : HasContinuing (set_of zone.source.rules of.name)).
        let found = subst (λ (ns : List ℕ). Contains ns has.0) e (of.continuing.all has.0 has.1 has.2 has.3) in
        let lt = found.1 in
        let nothing : ⊥ = omega (arith, lt) in
        nothing in
        let (in_force, from) = by_none zone orderly of.number of.line of.name of.year of.tail none in
        record {
          few = few_of (subst (λ (ns : List ℕ). length ns ≤ 1) (sym e) le);
          line = of.line;
          in_force = in_force;
          from = subst (λ (t : ℤ). HasInForceFrom zone (t -ℤ pos 1) of.line in_force) (sym of.end_is) from;
        }
    by_numbers (n ∷ []) e le =
        let set = set_of zone.source.rules of.name in
        let all = subst (AreContinuing set) e of.continuing in
        let (rule, member, continues) = all.each 0 n (omega arith) in
        let only : IsOnlyContinuing set n rule = record {
          member = member;
          continues = continues;
          only = λ other its is goes. sym (only_one n other (all.all other its is goes));
        } in
        record {
          few = few_of (subst (λ (ns : List ℕ). length ns ≤ 1) (sym e) le);
          line = of.line;
          in_force = in_force_of rule;
          from = subst (λ (t : ℤ). HasInForceFrom zone (t -ℤ pos 1) of.line (in_force_of rule)) (sym of.end_is)
              (by_one zone orderly of.number of.line of.name of.year of.tail n rule only);
        }
    by_numbers (n ∷ m ∷ rest) e le = absurd (omega (arith, le))

    by_set : length tails ≤ 1 → HasOneThingInForce zone end
    by_set le = let many = of.rules.as_many in by_numbers of.numbers refl (omega (arith, many))

  one_thing : HasTailRules zone tails → length tails ≤ 1 → HasOneThingInForce zone end
  one_thing has le = elim (fixed_or_set zone orderly end is_end tails has) [ inl fixed ↦ by_fixed fixed | inr of ↦ by_set of le ]

  pub constant_tail : zone.number < length zone.source.zones → (HasNoLetter zone → ⊥) → HasTailRules zone tails → length tails ≤ 1
      → (state : Shown) → Shows zone (end -ℤ pos 1) state → IsConstantTail zone state
  constant_tail is_zone letters has le state shown =
      let keeps = one_thing has le in
      record {
        few = keeps.few;
        from_end = λ t late.
            let (other, is_other, le) = late in
            let same = one_end zone orderly.sets other end is_other is_end in
            let not_before : (end -ℤ pos 1) ≤ℤ t = omega (arith, ints) in
            record {
              line = shown.line;
              in_force = shown.in_force;
              keeps = at_both zone (end -ℤ pos 1) t keeps.line keeps.in_force (keeps.from (end -ℤ pos 1) (omega (arith, ints)))
                  (keeps.from t not_before) shown.line shown.in_force shown.keeps;
              offset = shown.offset;
              daylight = shown.daylight;
              name = shown.name;
            };
        from_change = one_state_after_changes zone orderly is_zone letters end keeps.line keeps.in_force is_end keeps.from state shown;
      }
