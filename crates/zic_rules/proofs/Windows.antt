-- The window at the start of a line.
use Rattle.std.proofs.Common.{◌≡◌, ℕ, zero, suc, ◌-◌, List, [], ◌∷◌, length, to_z, of_z, w64, FitsSigned, Option, Some, None, All, refl, sym, ap, subst, ◌∙◌, arith, ℤ, pos, ◌+ℤ◌, ◌-ℤ◌, ◌<ℤ◌, ◌≤ℤ◌}
use Rattle.std.specs.Prelude.{IfSome, IsSomeAnd, slice_get}
use Rattle.std.specs.Int.{int_max}
use Rattle.std.proofs.lemmas.Int.{ints}
use Rattle.std.proofs.lemmas.Option.{same_Some}
use Rattle.zic_lines.specs.declared.rule_line.Rule.{Rule}
use Rattle.zic_lines.specs.declared.rules.Rules.{Rules}
use Rattle.zic_lines.specs.declared.rules.Rules.TheVariants.{Standard, Amount, Set}
use Rattle.zic_lines.specs.declared.zone_line.ZoneLine.{ZoneLine}
use Rattle.zic_source.specs.Sound.{IsSoundRule, AreSoundRules, IsWithinDay}
use Rattle.zic_base.proofs.Elements.{all_got}
use Rattle.zic_states.specs.declared.occurrence.TimedOccurrence.{TimedOccurrence}
use Rattle.zic_states.specs.ByList.{rule_at}
use Rattle.zic_states.specs.InForce.{InForce, IsInForceBy, IsRuleOf}
use Rattle.zic_states.specs.Zone.{Zone, line_at, Ends, HasOffset, IsWindowEnd, HasInForce}
use Rattle.zic_rules.specs.declared.line.Period.{Period}
use Rattle.zic_rules.specs.code.Period.{Holds}
use Rattle.zic_rules.specs.code.Held.{HeldTo, AreSoFar, last_rule}
use Rattle.zic_rules.specs.code.Line.{GivesInForce, IsEndOfWindow, IsTotalOffset}
use Rattle.zic_lines.specs.Time.{IsWithin}
use Rattle.zic_rules.specs.code.End.{IsInYears}
use Rattle.zic_rules.proofs.Years.{small}
use Rattle.zic_rules.proofs.Held.{holds_last, last_rule_is}

-- what a sound line keeps saves at most a day
pub saving_within : (rules : List Rule) (says : Rules) (rule : Option ℕ) (in_force : InForce) → All IsSoundRule rules → AreSoundRules rules says
    → IsInForceBy rules says rule in_force → IsWithinDay in_force.saving
saving_within rules Standard rule in_force sound known is = subst IsWithinDay (sym (ap (λ (k : InForce). k.saving) is)) (omega arith)
saving_within rules (Amount saving) rule in_force sound known is = subst IsWithinDay (sym (ap (λ (k : InForce). k.saving) is)) known
saving_within rules (Set name) None in_force sound known (is, standard, letter) = subst IsWithinDay (sym is) (omega arith)
saving_within rules (Set name) (Some number) in_force sound known (rule, member, is) =
    subst IsWithinDay (sym (ap (λ (k : InForce). k.saving) is)) (let one = all_got IsSoundRule rules number rule sound member.numbered in one.saving)

-- what holds one second before the start
pub holds_before : (zone : Zone) (i : ℕ) (start : ℤ) (ss : List Period) → HeldTo zone i start ss → Holds zone (start -ℤ pos 1) i (last_rule None ss)
holds_before zone i start ss to =
    subst (λ (j : ℕ). Holds zone (start -ℤ pos 1) j (last_rule None ss)) to.last (holds_last zone start None 0 None ss tt to.held)

pub rule_before : (zone : Zone) (number : ℕ) (start : ℤ) (ss : List Period) (earlier : ZoneLine) → AreSoFar zone number (Some start) ss
    → line_at zone (number - 1) ≡ Some earlier → IsRuleOf zone.source.rules earlier.rules (last_rule None ss)
rule_before zone zero start ss earlier so_far at = absurd so_far
rule_before zone (suc i) start ss earlier so_far at =
    let holds = holds_before zone i start ss so_far.1 in
    let place : suc i - 1 ≡ i = omega arith in
    let same : holds.line ≡ earlier = same_Some holds.line earlier (sym holds.governs.is_line ∙ ap (line_at zone) (sym place) ∙ at) in
    subst (λ (l : ZoneLine). IsRuleOf zone.source.rules l.rules (last_rule None ss)) same holds.of_line

module _ (zone : Zone) (start : ℤ) (ss : List Period) (mine : List TimedOccurrence) (earlier later : ZoneLine) (before at_start : ℤ) where
  is_window : (i : ℕ) → Ends zone i start → HeldTo zone i start ss → line_at zone i ≡ Some earlier → GivesInForce zone (start +ℤ pos 432_000) later mine
      → IsTotalOffset zone.source.rules earlier (last_rule None ss) before → IsTotalOffset zone.source.rules later (rule_at mine start) at_start
      → IsWindowEnd zone i (HasInForce zone i) later (start +ℤ int_max (pos 0) (before -ℤ at_start))
  is_window i ends to at gives one other =
      let holds = holds_before zone i start ss to in
      let same : holds.line ≡ earlier = same_Some holds.line earlier (sym holds.governs.is_line ∙ at) in
      let by = subst (λ (l : ZoneLine). IsInForceBy zone.source.rules l.rules (last_rule None ss) one.in_force) (sym same) one.is_in_force in
      record {
        start = start;
        starts = ends;
        before = before;
        is_before = subst (λ (o : Option ZoneLine). IsSomeAnd o (λ l. HasOffset (HasInForce zone i) l (start -ℤ pos 1) before)) (sym at)
            (one.in_force, subst (λ (l : ZoneLine). HasInForce zone i l (start -ℤ pos 1) one.in_force) same (holds.keeps one.in_force by), one.is);
        after = at_start;
        is_after = (other.in_force, gives.keeps start other.in_force (omega (arith, ints)) other.is_in_force, other.is);
        is = refl;
      }

  pub window : (number : ℕ) → AreSoFar zone number (Some start) ss → line_at zone (number - 1) ≡ Some earlier → line_at zone number ≡ Some later
      → IfSome (line_at zone number) (λ line. GivesInForce zone (start +ℤ pos 432_000) line mine)
      → IsTotalOffset zone.source.rules earlier (last_rule None ss) before → IsTotalOffset zone.source.rules later (rule_at mine start) at_start
      → IfSome (line_at zone number) (λ line. IsEndOfWindow zone number line (start +ℤ int_max (pos 0) (before -ℤ at_start)))
  window zero so_far at at_later gives one other = absurd so_far
  window (suc i) so_far at at_later gives one other =
      let place : suc i - 1 ≡ i = omega arith in
      let end = start +ℤ int_max (pos 0) (before -ℤ at_start) in
      let own = subst (λ (o : Option ZoneLine). IfSome o (λ line. GivesInForce zone (start +ℤ pos 432_000) line mine)) at_later gives in
      subst (λ (o : Option ZoneLine). IfSome o (λ line. IsEndOfWindow zone (suc i) line end)) (sym at_later)
      (is_window i so_far.0 so_far.1 (ap (line_at zone) (sym place) ∙ at) own one other)

swapped : (d : ℤ) → int_max d (pos 0) ≡ int_max (pos 0) d
swapped d = grind (arith, ints)

at_least : (d : ℤ) → pos 0 ≤ℤ int_max (pos 0) d
at_least d = grind (arith, ints)

at_most : (d : ℤ) → d ≤ℤ pos 345_600 → int_max (pos 0) d ≤ℤ pos 345_600
at_most d le = grind (arith, ints)

-- the code's sum
pub record IsReckoned (start before at_start max : ℤ) : Type 0 where
  pub fits : FitsSigned w64 (to_z w64 (of_z w64 start) +ℤ to_z w64 (of_z w64 max))
  pub is : to_z w64 (of_z w64 (to_z w64 (of_z w64 start) +ℤ to_z w64 (of_z w64 max))) ≡ start +ℤ int_max (pos 0) (before -ℤ at_start)
  pub from : start ≤ℤ (start +ℤ int_max (pos 0) (before -ℤ at_start))
  pub to : (start +ℤ int_max (pos 0) (before -ℤ at_start)) <ℤ (start +ℤ pos 432_000)

pub reckoned : (start before at_start max : ℤ) → IsInYears 9002 start → IsWithin 172_800 before → IsWithin 172_800 at_start
    → max ≡ int_max (to_z w64 (of_z w64 (to_z w64 (of_z w64 before) -ℤ to_z w64 (of_z w64 at_start)))) (pos 0) → IsReckoned start before at_start max
reckoned start before at_start max in_years one other is =
    let near = small 9002 start (omega arith) in_years in
    let difference : to_z w64 (of_z w64 (to_z w64 (of_z w64 before) -ℤ to_z w64 (of_z w64 at_start))) ≡ before -ℤ at_start = omega (arith, ints, one, other) in
    let same : max ≡ int_max (pos 0) (before -ℤ at_start) = is ∙ ap (λ (d : ℤ). int_max d (pos 0)) difference ∙ swapped (before -ℤ at_start) in
    let low = at_least (before -ℤ at_start) in
    let high = at_most (before -ℤ at_start) (omega (arith, ints, one, other)) in
    record {
      fits = omega (arith, ints, near, same, low, high);
      is = omega (arith, ints, near, same, low, high);
      from = omega (arith, ints, low);
      to = omega (arith, ints, high);
    }

-- the rule of the last period that the code found
pub last_found : (ss : List Period) (x : Period) → slice_get ss (length ss - 1) ≡ Some x → x.rule ≡ last_rule None ss
last_found [] x e = absurd cc
last_found (y ∷ ys) x e = subst (λ (o : Option Period). IfSome o (λ s. s.rule ≡ last_rule None (y ∷ ys))) e (last_rule_is None y ys)
