-- The window of a zone's last line ends at most four days after its start; from then on the line keeps what it keeps by itself.
use Rattle.std.proofs.Common.{◌≡◌, ℕ, zero, suc, ◌*◌, All, inl, inr, List, Some, sym, subst, arith, ◌∙◌}
use Rattle.std.specs.Prelude.{ℤ, pos, ◌+ℤ◌, ◌-ℤ◌, ◌<ℤ◌, ◌≤ℤ◌}
use Rattle.std.specs.Int.{int_max}
use Rattle.std.proofs.lemmas.Int.{ints, clamps}
use Rattle.zic_lines.specs.declared.rule_line.Rule.{Rule}
use Rattle.zic_lines.specs.declared.rules.Rules.{Rules}
use Rattle.zic_lines.specs.declared.rules.Rules.TheVariants.{Standard, Amount, Set}
use Rattle.zic_lines.specs.declared.zone_line.ZoneLine.{ZoneLine}
use Rattle.zic_source.specs.Sound.{IsSoundRule, IsWithinDay, AreSoundRules}
use Rattle.zic_states.specs.Occurrence.{year_second}
use Rattle.zic_states.proofs.Bounds.{sound_rule}
use Rattle.zic_states.specs.End.{IsLastYear}
use Rattle.zic_states.specs.InForce.{InForce, RulesHaveInForce}
use Rattle.zic_states.specs.Laws.{HasSetsInOrder}
use Rattle.zic_states.specs.Until.{set_of}
use Rattle.zic_states.specs.Zone.{Zone, line_at, Ends, HasBegun, HasInForceBy, HasOffset, IsWindowEnd, HasInForce}
use Rattle.zic_states.proofs.Ends.{not_later}
use Rattle.zic_states.proofs.Lines.{sound_line, one_end_of, some_and_has}
use Rattle.zic_states.proofs.SomeInForce.{some_in_force}

saving_within : (rules : List Rule) (line : ZoneLine) (says : Rules) (IsSuch : ℤ → Type 0) (in_force : InForce) → All IsSoundRule rules
    → AreSoundRules rules says → RulesHaveInForce rules line says IsSuch in_force → IsWithinDay in_force.saving
saving_within rules line Standard IsSuch in_force sound known e = subst (λ (k : InForce). IsWithinDay k.saving) (sym e) (omega arith)
saving_within rules line (Amount saving) IsSuch in_force sound known e = subst (λ (k : InForce). IsWithinDay k.saving) (sym e) known
saving_within rules line (Set name) IsSuch in_force sound known (inl (o, last, e)) =
    subst (λ (k : InForce). IsWithinDay k.saving) (sym e) (sound_rule (set_of rules name) o sound last.is).saving
saving_within rules line (Set name) IsSuch in_force sound known (inr none) = rw none.1 (omega arith)

four_days : (start end a b c d : ℤ) → IsWithinDay a → IsWithinDay b → IsWithinDay c → IsWithinDay d
    → end ≡ start +ℤ int_max (pos 0) ((a +ℤ b) -ℤ (c +ℤ d)) → end ≤ℤ (start +ℤ pos (4 * 86_400))
four_days start end a b c d h k l m e = omega (arith, ints, clamps)

-- the fourth day after the year
abbrev pub settled : ℤ → ℤ
settled year = year_second (year +ℤ pos 1) +ℤ pos (4 * 86_400)

start_before : (start of_start year : ℤ) → start <ℤ year_second (of_start +ℤ pos 1) → of_start ≤ℤ year → start ≤ℤ year_second (year +ℤ pos 1)
start_before start of_start year before le =
    let later = not_later (of_start +ℤ pos 1) (year +ℤ pos 1) (omega (arith, ints)) in
    omega (arith, ints)

module _ (zone : Zone) (sets : HasSetsInOrder zone) where
  -- the line starts by the end of its last year
  some_start : (i : ℕ) (name : List ℕ) (year : ℤ) → IsLastYear zone (suc i) name year → (start : ℤ) × Ends zone i start × (start ≤ℤ year_second (year +ℤ pos 1))
  some_start i name year (named, last, start, ends, of_start, lies, greatest) =
      (start, ends, start_before start of_start year lies.not_over (omega (arith, ints, clamps)))

  pub begun_when_settled : (i : ℕ) (name : List ℕ) (year t : ℤ) → IsLastYear zone i name year → settled year ≤ℤ t → HasBegun zone i t
  begun_when_settled zero name year t last le = tt
  begun_when_settled (suc i) name year t last le =
      let (start, ends, before) = some_start i name year last in
      (start, ends, omega (arith, ints))

  in_force_by_within : (i : ℕ) (line : ZoneLine) (t : ℤ) (in_force : InForce) → line_at zone i ≡ Some line → HasInForceBy zone line t in_force → IsWithinDay in_force.saving
  in_force_by_within i line t in_force at keeps =
      saving_within zone.source.rules line line.rules _ in_force sets.sound.rules (sound_line zone sets i line at).rules_known keeps

  in_force_within : (i : ℕ) (line : ZoneLine) (t : ℤ) (in_force : InForce) → line_at zone i ≡ Some line → HasInForce zone i line t in_force → IsWithinDay in_force.saving
  unfolding HasInForce
  in_force_within zero line t in_force at keeps = in_force_by_within zero line t in_force at keeps
  in_force_within (suc i) line t in_force at (end, window, keeps) = in_force_by_within (suc i) line (int_max t end) in_force at keeps

  window_over : (i : ℕ) (line : ZoneLine) (name : List ℕ) (year end : ℤ) → IsLastYear zone (suc i) name year → line_at zone (suc i) ≡ Some line
      → IsWindowEnd zone i (HasInForce zone i) line end → end ≤ℤ settled year
  window_over i line name year end last at window =
      let (start, ends, before) = some_start i name year last in
      let same : window.start ≡ start = one_end_of zone sets i window.start start window.starts ends in
      let (earlier, at_earlier, (in_force, keeps, is_before)) = some_and_has (line_at zone i) (λ l. HasOffset (HasInForce zone i) l (window.start -ℤ pos 1) window.before) window.is_before in
      let (own, has_own, is_after) = window.is_after in
      let near = four_days window.start end earlier.offset in_force.saving line.offset own.saving
      (sound_line zone sets i earlier at_earlier).offset
      (in_force_within i earlier (window.start -ℤ pos 1) in_force at_earlier keeps)
      (sound_line zone sets (suc i) line at).offset
      (in_force_by_within (suc i) line window.start own at has_own)
      (window.is ∙ (λ k. window.start +ℤ int_max (pos 0) (is_before k -ℤ is_after k))) in
      omega (arith, ints)

  pub has_by_itself : (i : ℕ) (line : ZoneLine) (name : List ℕ) (year t : ℤ) (in_force : InForce) → IsLastYear zone i name year
      → line_at zone i ≡ Some line → settled year ≤ℤ t → HasInForce zone i line t in_force → HasInForceBy zone line t in_force
  unfolding HasInForce
  has_by_itself zero line name year t in_force last at le keeps = keeps
  has_by_itself (suc i) line name year t in_force last at le (end, window, keeps) =
      let over = window_over i line name year end last at window in
      let same : int_max t end ≡ t = omega (arith, ints, clamps) in
      subst (λ (s : ℤ). HasInForceBy zone line s in_force) same keeps

  pub has_what_by_itself : (i : ℕ) (line : ZoneLine) (name : List ℕ) (year t : ℤ) (in_force : InForce) → IsLastYear zone i name year
      → line_at zone i ≡ Some line → settled year ≤ℤ t → HasInForceBy zone line t in_force → HasInForce zone i line t in_force
  unfolding HasInForce
  has_what_by_itself zero line name year t in_force last at le keeps = keeps
  has_what_by_itself (suc i) line name year t in_force last at le keeps =
      let (other, (end, window, not_used)) = some_in_force zone sets (suc i) line t at in
      let over = window_over i line name year end last at window in
      let same : t ≡ int_max t end = omega (arith, ints, clamps) in
      (end, window, subst (λ (s : ℤ). HasInForceBy zone line s in_force) same keeps)
