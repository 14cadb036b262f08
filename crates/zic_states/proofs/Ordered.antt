-- A set in order: its occurrences, which follow one another, and the one after which an UNTIL is read.
use Rattle.std.proofs.Common.{◌≡◌, ℕ, List, Option, Some, None, All, ◌⊎◌, inl, inr, refl, sym, ap, ◌∙◌, subst, arith, ℤ, ◌<ℤ◌, ◌≤ℤ◌}
use Rattle.std.specs.Prelude.{slice_get}
use Rattle.std.proofs.lemmas.Int.{ints, by_lt_z}
use Rattle.std.proofs.lemmas.Option.{same_Some}
use Rattle.zic_lines.specs.declared.rule_line.Rule.{Rule}
use Rattle.zic_lines.specs.declared.rules.Rules.{Rules}
use Rattle.zic_lines.specs.declared.rules.Rules.TheVariants.{Standard, Amount, Set}
use Rattle.zic_lines.specs.declared.until.Until.{Until}
use Rattle.zic_lines.specs.declared.zone_line.ZoneLine.{ZoneLine}
use Rattle.zic_source.specs.Sound.{IsSoundRule, IsWithinDay}
use Rattle.zic_states.specs.Occurrence.{RuleSet, Occurrence, IsOccurrence, AreSame, nominal}
use Rattle.zic_states.specs.Order.{IsInOrder}
use Rattle.zic_states.specs.Until.{IsNext, IsReadAfter, IsSavedAtUntil, IsUntil, saved_after, set_of, until_by}

-- a set of sound rules, in order on a line of this standard offset
pub record IsOrdered (set : RuleSet) (offset : ℤ) : Type 0 where
  pub sound : All IsSoundRule set.rules
  pub within : IsWithinDay offset
  pub order : IsInOrder set offset

-- ---- occurrences

abbrev occurrence : ℕ → Rule → ℤ → Occurrence
occurrence number rule year = record { number = number; rule = rule; year = year }

of_parts : (m n : ℕ) (r s : Rule) (y z : ℤ) → m ≡ n → r ≡ s → y ≡ z → occurrence m r y ≡ occurrence n s z
of_parts m n r s y z number rule year =
    ap (λ (k : ℕ). occurrence k r y) number ∙ ap (λ (k : Rule). occurrence n k y) rule ∙ ap (λ (k : ℤ). occurrence n s k) year

-- one number and year are those of one occurrence
pub same_occurrence : (set : RuleSet) (o p : Occurrence) → IsOccurrence set o → IsOccurrence set p → AreSame o p → o ≡ p
same_occurrence set o p is_o is_p same =
    let rule : o.rule ≡ p.rule = same_Some o.rule p.rule (sym is_o.member.numbered ∙ ap (slice_get set.rules) same.number ∙ is_p.member.numbered) in
    of_parts o.number p.number o.rule p.rule o.year p.year same.number rule same.year

-- of two occurrences one comes first, or they are the same
pub compare_occurrences : (set : RuleSet) (offset : ℤ) → IsInOrder set offset → (o p : Occurrence) → IsOccurrence set o → IsOccurrence set p
    → (nominal o <ℤ nominal p) ⊎ ((o ≡ p) ⊎ (nominal p <ℤ nominal o))
compare_occurrences set offset order o p is_o is_p =
    by_lt_z (nominal o) (nominal p) (λ lt. inl lt) (λ ge. by_lt_z (nominal p) (nominal o) (λ gt. inr (inr gt))
    (λ le.
    let e : nominal o ≡ nominal p = omega (arith, ints) in
    inr (inl (same_occurrence set o p is_o is_p (order.differ o p is_o is_p e)))))

-- ---- the next occurrence

pub next_is : (set : RuleSet) (b : Option Occurrence) (o : Occurrence) → IsNext set b o → IsOccurrence set o
next_is set None o next = next.0
next_is set (Some b) o next = next.0

next_not_after : (set : RuleSet) (b : Option Occurrence) (o p : Occurrence) → IsNext set b o → IsNext set b p → nominal o ≤ℤ nominal p
next_not_after set None o p is_o is_p = is_o.1 p is_p.0
next_not_after set (Some b) o p is_o is_p =
    by_lt_z (nominal p) (nominal o)
    (λ lt.
    let below : nominal p ≤ℤ nominal b = is_o.1.greatest p is_p.0 lt in
    let above : nominal b <ℤ nominal p = is_p.1.earlier in
    absurd (omega (arith, ints)))
    (λ le. le)

-- One occurrence comes next.
pub one_next : (set : RuleSet) (offset : ℤ) → IsInOrder set offset → (b : Option Occurrence) (o p : Occurrence)
    → IsNext set b o → IsNext set b p → o ≡ p
one_next set offset order b o p next_o next_p =
    let is_o = next_is set b o next_o in
    let is_p = next_is set b p next_p in
    let le : nominal o ≤ℤ nominal p = next_not_after set b o p next_o next_p in
    let ge : nominal p ≤ℤ nominal o = next_not_after set b p o next_p next_o in
    let e : nominal o ≡ nominal p = omega (arith, ints) in
    same_occurrence set o p is_o is_p (order.differ o p is_o is_p e)

-- ---- the UNTIL of a line

-- An UNTIL is read after one occurrence, or before all.
pub one_stage : (set : RuleSet) (offset : ℤ) (until : Until) → IsInOrder set offset → (b c : Option Occurrence)
    → IsReadAfter set offset until b → IsReadAfter set offset until c → b ≡ c
one_stage set offset until order None None read_b read_c = refl
one_stage set offset until order None (Some c) read_b read_c = absurd (read_c.first None tt tt read_b.stops)
one_stage set offset until order (Some b) None read_b read_c = absurd (read_b.first None tt tt read_c.stops)
one_stage set offset until order (Some b) (Some c) read_b read_c =
    elim (compare_occurrences set offset order b c read_b.is read_c.is) [
      | inl lt ↦ absurd (read_c.first (Some b) read_b.is lt read_b.stops)
      | inr (inl same) ↦ ap Some same
      | inr (inr gt) ↦ absurd (read_b.first (Some c) read_c.is gt read_c.stops)
    ]

-- One amount is saved at an UNTIL.
one_saving : (rules : List Rule) (offset : ℤ) (until : Until) (in_force : Rules)
    → ((name : List ℕ) → in_force ≡ Set name → IsInOrder (set_of rules name) offset) → (s t : ℤ)
    → IsSavedAtUntil rules offset until in_force s → IsSavedAtUntil rules offset until in_force t → s ≡ t
one_saving rules offset until Standard order s t one other = one ∙ sym other
one_saving rules offset until (Amount saving) order s t one other = one ∙ sym other
one_saving rules offset until (Set name) order s t one other =
    one.2 ∙ ap saved_after (one_stage (set_of rules name) offset until (order name refl) one.0 other.0 one.1 other.1) ∙ sym other.2

-- A line has at most one UNTIL instant.
pub one_until : (rules : List Rule) (line : ZoneLine)
    → ((name : List ℕ) → line.rules ≡ Set name → IsInOrder (set_of rules name) line.offset)
    → (t u : ℤ) → IsUntil rules line t → IsUntil rules line u → t ≡ u
one_until rules line order t u one other =
    let same : one.until ≡ other.until = same_Some one.until other.until (sym one.has ∙ other.has) in
    let Saved : Until → Type 0 = λ x. IsSavedAtUntil rules line.offset x line.rules other.saved in
    let saved : one.saved ≡ other.saved =
    one_saving rules line.offset one.until line.rules order one.saved other.saved one.is_saved (subst Saved (sym same) other.is_saved)
    in
    one.is ∙ ap (until_by line.offset one.until) saved ∙ ap (λ (x : Until). until_by line.offset x other.saved) same ∙ sym other.is
