-- Sets in order.
use Rattle.std.proofs.Common.{◌≡◌, ◌<◌, ℕ, inl, inr, ⊎_elim, sym, ap, ◌∙◌, arith}
use Rattle.std.specs.Prelude.{ℤ, ◌<ℤ◌, slice_get}
use Rattle.std.proofs.lemmas.Bool.{cases_lt}
use Rattle.std.proofs.lemmas.Int.{ints, by_lt_z}
use Rattle.std.proofs.lemmas.Option.{same_Some}
use Rattle.zic_states.specs.Occurrence.{RuleSet, Occurrence, IsOccurrence, AreSame}
use Rattle.zic_states.specs.Order.{IsInOrder, IsOutOfOrder}

pub same_number : (m n : ℕ) → (m < n → ⊥) → (n < m → ⊥) → m ≡ n
same_number m n below above =
    ⊎_elim (λ lt. absurd (below lt)) (λ ge. ⊎_elim (λ gt. absurd (above gt)) (λ le. omega arith) (cases_lt n m)) (cases_lt m n)

pub same_int : (x y : ℤ) → (x <ℤ y → ⊥) → (y <ℤ x → ⊥) → x ≡ y
same_int x y below above =
    by_lt_z x y (λ lt. absurd (below lt)) (λ ge. by_lt_z y x (λ gt. absurd (above gt)) (λ le. omega (arith, ints)))

same_unless : (o p : Occurrence) → ((AreSame o p → ⊥) → ⊥) → AreSame o p
same_unless o p never = record {
  number = same_number o.number p.number
      (λ lt. never (λ same. let e = same.number in omega arith)) (λ gt. never (λ same. let e = same.number in omega arith));
  year = same_int o.year p.year
      (λ lt. never (λ same. let e = same.year in omega (arith, ints))) (λ gt. never (λ same. let e = same.year in omega (arith, ints)));
}

pub in_order_unless_out : (set : RuleSet) (offset : ℤ) → (IsOutOfOrder set offset → ⊥) → IsInOrder set offset
in_order_unless_out set offset never = record {
  differ = λ o p one other tied. same_unless o p
      (λ different. never (o, p, inl (record { one = one; other = other; different = different; tied = tied })));
  rise = λ o p t u is predecessor at_later at_earlier. by_lt_z u t (λ lt. lt)
      (λ not_after. absurd (never (
        o,
        p,
        inr (record {
          is = is;
          predecessor = predecessor;
          later = t;
          earlier = u;
          at_later = at_later;
          at_earlier = at_earlier;
          not_after = not_after;
        }),
      )));
}

-- a number has one rule
pub same_rule : (set : RuleSet) (o p : Occurrence) → IsOccurrence set o → IsOccurrence set p → AreSame o p → o.rule ≡ p.rule
same_rule set o p one other same =
    same_Some o.rule p.rule (sym one.member.numbered ∙ ap (slice_get set.rules) same.number ∙ other.member.numbered)
