-- One rule in one year is one occurrence, and where no two nominal seconds are equal it has at most one instant.
use Rattle.std.proofs.Common.{◌≡◌, ℕ, inl, inr, sym, ap, ◌∙◌, arith, ℤ, List, Some}
use Rattle.std.specs.Prelude.{slice_get}
use Rattle.std.proofs.lemmas.Int.{ints}
use Rattle.zic_lines.specs.declared.rule_line.Rule.{Rule}
use Rattle.zic_states.specs.Occurrence.{RuleSet, Occurrence, IsOccurrence, AreSame, nominal}
use Rattle.zic_states.specs.Order.{IsSavedBefore, IsInstant, instant_by}

-- different occurrences have different nominal seconds
abbrev pub Differ : RuleSet → Type 0
Differ set = (o p : Occurrence) → IsOccurrence set o → IsOccurrence set p → nominal o ≡ nominal p → AreSame o p

-- one number names one element
pub one_place : {X : Type 0} (xs : List X) (i j : ℕ) (x y : X) → i ≡ j → slice_get xs i ≡ Some x → slice_get xs j ≡ Some y → x ≡ y
one_place xs i j x y e a b = cc

same_parts : (n m : ℕ) (r s : Rule) (y z : ℤ) → n ≡ m → r ≡ s → y ≡ z → Path Occurrence (record { number = n; rule = r; year = y }) (record { number = m; rule = s; year = z })
same_parts n m r s y z a b c = cc

-- two that are numbered as the set has them and agree in number and year are one
pub same_numbered : (set : RuleSet) (o p : Occurrence) → slice_get set.rules o.number ≡ Some o.rule → slice_get set.rules p.number ≡ Some p.rule → AreSame o p → o ≡ p
same_numbered set o p at_o at_p same =
    same_parts o.number p.number o.rule p.rule o.year p.year same.number
    (one_place set.rules o.number p.number o.rule p.rule same.number at_o at_p) same.year

pub same_occurrence : (set : RuleSet) (o p : Occurrence) → IsOccurrence set o → IsOccurrence set p → AreSame o p → o ≡ p
same_occurrence set o p is_o is_p = same_numbered set o p is_o.member.numbered is_p.member.numbered

-- what is saved before an occurrence is one
one_saving : (set : RuleSet) (o : Occurrence) (a b : ℤ) → Differ set → IsSavedBefore set o a → IsSavedBefore set o b → a ≡ b
one_saving set o a b differ (inl first) (inl other) = first.1 ∙ sym other.1
one_saving set o a b differ (inl first) (inr (p, pred, e)) = absurd (omega (arith, ints, first.0 p pred.is, pred.earlier))
one_saving set o a b differ (inr (p, pred, e)) (inl first) = absurd (omega (arith, ints, first.0 p pred.is, pred.earlier))
one_saving set o a b differ (inr (p, pred, e)) (inr (q, other, f)) =
    let tied : nominal p ≡ nominal q = omega (arith, ints, pred.greatest q other.is other.earlier, other.greatest p pred.is pred.earlier) in
    let same = same_occurrence set p q pred.is other.is (differ p q pred.is other.is tied) in
    e ∙ ap (λ (z : Occurrence). z.rule.saving.seconds) same ∙ sym f

-- so its instant is
pub one_instant : (set : RuleSet) (offset : ℤ) (o : Occurrence) (t u : ℤ) → Differ set → IsInstant set offset o t → IsInstant set offset o u → t ≡ u
one_instant set offset o t u differ at other =
    at.is ∙ ap (λ (saved : ℤ). instant_by o.rule.moment.at.form offset saved (nominal o)) (one_saving set o at.saved other.saved differ at.is_saved other.is_saved) ∙ sym other.is
