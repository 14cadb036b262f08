-- The occurrences that a list of nominal seconds stands for.
use Rattle.std.proofs.Common.{◌≡◌, ℕ, zero, suc, ◌<◌, ◌≤◌, ⊎_elim, List, [], ◌∷◌, length, get_or, refl, sym, ap, subst, ◌∙◌, ℤ, pos, ◌<ℤ◌, ◌≤ℤ◌, arith}
use Rattle.std.specs.Prelude.{slice_get, All, AllPairs}
use Rattle.std.proofs.lemmas.Bool.{cases_lt}
use Rattle.std.proofs.lemmas.Int.{ints}
use Rattle.std.proofs.lemmas.List.{get_or_default}
use Rattle.std.proofs.lemmas.List.Elements.{All-head, All-tail}
use Rattle.std.proofs.lemmas.Option.{same_Some}
use Rattle.zic_lines.specs.declared.rule_line.Rule.{Rule}
use Rattle.zic_states.specs.declared.nominal.Nominal.{Nominal}
use Rattle.zic_states.specs.Occurrence.{RuleSet, Occurrence, IsOccurrence, AreSame, nominal, nominal_second}
use Rattle.zic_states.specs.Order.{IsPredecessor, IsFirst}
use Rattle.zic_states.specs.code.OccurrenceWalk.{IsBefore, AreInOrderBefore}
use Rattle.zic_states.specs.code.Nominals.{IsNominalOf, IsListedNominal, AreNominals}

-- the occurrences at the places of their nominal seconds
pub record AreOf (set : RuleSet) (ns : List Nominal) (os : List Occurrence) : Type 0 where
  pub count : length os ≡ length ns
  pub each : (k : ℕ) (d : Nominal) (e : Occurrence) → k < length ns → IsNominalOf set (get_or ns k d) (get_or os k e)

each_more : (set : RuleSet) (n : Nominal) (ns : List Nominal) (o : Occurrence) (os : List Occurrence) → IsNominalOf set n o → AreOf set ns os
    → (k : ℕ) (d : Nominal) (e : Occurrence) → k < length (n ∷ ns) → IsNominalOf set (get_or (n ∷ ns) k d) (get_or (o ∷ os) k e)
each_more set n ns o os is are zero d e within = is
each_more set n ns o os is are (suc k) d e within = are.each k d e (omega arith)

-- there are such
pub chosen : (set : RuleSet) (bound : ℤ) (ns : List Nominal) → All (IsListedNominal set bound) ns → (os : List Occurrence) × AreOf set ns os
chosen set bound [] h = ([], record { count = refl; each = λ k d e within. absurd (omega arith) })
chosen set bound (n ∷ ns) h =
    let first = All-head (IsListedNominal set bound) n ns h in
    let rest = chosen set bound ns (All-tail (IsListedNominal set bound) n ns h) in
    (first.occurrence ∷ rest.0, record { count = ap suc rest.1.count; each = each_more set n ns first.occurrence rest.0 first.is rest.1 })

-- one rule in one year has one nominal second
pub one_second : (set : RuleSet) (o p : Occurrence) → IsOccurrence set o → IsOccurrence set p → AreSame o p → nominal o ≡ nominal p
one_second set o p is_o is_p same =
    let rules : o.rule ≡ p.rule = same_Some o.rule p.rule (sym is_o.member.numbered ∙ ap (slice_get set.rules) same.number ∙ is_p.member.numbered) in
    ap (λ (y : ℤ). nominal_second y o.rule.moment) same.year ∙ ap (λ (r : Rule). nominal_second p.year r.moment) rules

no_later : (a b : ℤ) → (b <ℤ a → ⊥) → a ≤ℤ b
no_later a b h = grind (arith, ints)

module _ (set : RuleSet) (bound : ℤ) (ns : List Nominal) (os : List Occurrence) (listed : AreNominals set bound ns) (strict : AllPairs (λ m n. m.second <ℤ n.second) ns) (are : AreOf set ns os) where
  abbrev pub none : Nominal
  none = record { second = pos 0; rule = 0; year = 0 }

  -- what stands at a place
  pub at_place : (k : ℕ) (e : Occurrence) → k < length os → IsNominalOf set (get_or ns k none) (get_or os k e)
  at_place k e within = are.each k none e (omega (arith, are.count))

  pub is_before : (k : ℕ) (e : Occurrence) → k < length os → IsBefore set bound (get_or os k e)
  is_before k e within =
      let is = at_place k e within in
      let early : (get_or ns k none).second <ℤ bound = (listed.each k none (omega (arith, are.count))).before in
      record { is = is.is; before = subst (λ (s : ℤ). s <ℤ bound) is.second early }

  pub rises : (i j : ℕ) (e : Occurrence) → i < j → j < length os → nominal (get_or os i e) <ℤ nominal (get_or os j e)
  rises i j e lt within =
      let is_i = at_place i e (omega arith) in
      let is_j = at_place j e within in
      let up : (get_or ns i none).second <ℤ (get_or ns j none).second = strict i j none lt (omega (arith, are.count)) in
      subst (λ (s : ℤ). s <ℤ nominal (get_or os j e)) is_i.second (subst (λ (s : ℤ). (get_or ns i none).second <ℤ s) is_j.second up)

  -- each occurrence before the bound stands at some place
  pub found : (q : Occurrence) (e : Occurrence) → IsBefore set bound q → (j : ℕ) × (j < length os) × AreSame q (get_or os j e)
  found q e before =
      let at = listed.all q before in
      let is = are.each at.0 at.1 e at.2 in (
        at.0,
        omega (arith, are.count, at.2),
        record {
          number = sym at.4.0 ∙ ap (λ (n : Nominal). n.rule) (sym at.3) ∙ is.number;
          year = sym at.4.1 ∙ ap (λ (n : Nominal). pos n.year) (sym at.3) ∙ is.year;
        },
      )

  pub in_order_before : AreInOrderBefore set bound os
  in_order_before = record {
    each = λ k e within. is_before k e within;
    all = λ q before.
        let at = found q q before in
        (at.0, get_or os at.0 q, at.1, get_or_default os at.0 (get_or os at.0 q) q at.1, at.2);
    rising = λ i j e lt within. rises i j e lt within;
  }

  -- what comes before an occurrence at some place stands at an earlier place
  pub earlier : (k : ℕ) (e q : Occurrence) → k < length os → IsOccurrence set q → nominal q <ℤ nominal (get_or os k e) → (j : ℕ) × (j < k) × (nominal q ≡ nominal (get_or os j e))
  earlier k e q within is less =
      let last : nominal (get_or os k e) <ℤ bound = (is_before k e within).before in
      let at = found q e (record { is = is; before = omega (arith, ints) }) in
      let here = is_before at.0 e at.1 in
      let same = one_second set q (get_or os at.0 e) is here.is at.2 in
      let small : at.0 < k = ⊎_elim
      (λ (lt : at.0 < k). lt)
      (λ (ge : k ≤ at.0). absurd (⊎_elim
      (λ (more : k < at.0). let up = rises k at.0 e more at.1 in let no : ⊥ = omega (arith, ints, same) in no)
      (λ (none_more : at.0 ≤ k). let one : at.0 ≡ k = omega arith in
      let equal : nominal q ≡ nominal (get_or os k e) = same ∙ ap (λ (j : ℕ). nominal (get_or os j e)) one in
      let no : ⊥ = omega (arith, ints, equal) in no)
      (cases_lt k at.0)))
      (cases_lt at.0 k) in
      (at.0, small, same)

  -- nothing comes before the first
  pub is_first : (e : Occurrence) → 0 < length os → IsFirst set (get_or os 0 e)
  is_first e within = λ q is. no_later (nominal (get_or os 0 e)) (nominal q)
      (λ less. let at = earlier 0 e q within is less in let no : at.0 < 0 = at.1 in absurd (omega arith))

  -- and before each other the one at the place before it
  pub is_predecessor : (k : ℕ) (e : Occurrence) → suc k < length os → IsPredecessor set (get_or os (suc k) e) (get_or os k e)
  is_predecessor k e within = record {
    is = (is_before k e (omega arith)).is;
    earlier = rises k (suc k) e (omega arith) within;
    greatest = λ q is less.
        let at = earlier (suc k) e q within is less in
        let small : at.0 < suc k = at.1 in
        ⊎_elim
        (λ before. let up = rises at.0 k e before (omega arith) in omega (arith, ints, at.2))
        (λ past. let one : at.0 ≡ k = omega arith in
        let equal : nominal q ≡ nominal (get_or os k e) = at.2 ∙ ap (λ (j : ℕ). nominal (get_or os j e)) one in omega (arith, ints, equal))
        (cases_lt at.0 k);
  }
