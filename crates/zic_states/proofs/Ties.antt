-- Occurrences in the order of their nominal seconds: some two neighbours tie, or all seconds rise.
use Rattle.std.proofs.Common.{◌≡◌, ◌≢◌, ℕ, zero, suc, ◌+◌, ◌<◌, true, false, ◌⊎◌, inl, ⊎_elim, List, length, get_or, sym, subst, ◌∙◌, ℤ, pos, ◌<ℤ◌, ◌≤ℤ◌, arith}
use Rattle.std.specs.Prelude.{AllPairs}
use Rattle.std.proofs.lemmas.Int.{ints}
use Rattle.std.proofs.lemmas.Map.Keys.{apart_from_distinct}
use Rattle.zic_states.specs.declared.nominal.Nominal.{Nominal}
use Rattle.zic_states.specs.Occurrence.{RuleSet, Occurrence}
use Rattle.zic_states.specs.Order.{IsOutOfOrder}
use Rattle.zic_states.specs.code.Nominals.{IsNominalOf, AreNominals, is_same, NeverFalls, HasTie, HasNoTie}

same_from : (m n : Nominal) → m.rule ≡ n.rule → m.year ≡ n.year → is_same m n ≡ true
same_from m n rule year = grind arith

years_same : (a b : ℕ) → pos a ≡ pos b → a ≡ b
years_same a b e = omega (arith, ints)

tied_of : (set : RuleSet) (offset : ℤ) (m n : Nominal) (o p : Occurrence) → IsNominalOf set m o → IsNominalOf set n p → is_same m n ≡ false → m.second ≡ n.second → IsOutOfOrder set offset
tied_of set offset m n o p is_o is_p apart tied = (
  o,
  p,
  inl (record {
    one = is_o.is;
    other = is_p.is;
    different = λ same. absurd (
        let one : is_same m n ≡ true = same_from m n (is_o.number ∙ same.number ∙ sym is_p.number) (years_same m.year n.year (is_o.year ∙ same.year ∙ sym is_p.year)) in
        cc);
    tied = sym is_o.second ∙ tied ∙ is_p.second;
  }),
)

-- a tie is a disorder
pub out_of_order : (set : RuleSet) (offset bound : ℤ) (ns : List Nominal) → AreNominals set bound ns → HasTie ns → IsOutOfOrder set offset
out_of_order set offset bound ns listed tie =
    let none : Nominal = record { second = pos 0; rule = 0; year = 0 } in
    let within : tie.place + 1 < length ns = tie.within in
    let first = listed.each tie.place none (omega arith) in
    let second = listed.each (tie.place + 1) none within in
    tied_of set offset (get_or ns tie.place none) (get_or ns (tie.place + 1) none) first.occurrence second.occurrence first.is second.is
    (apart_from_distinct is_same ns tie.place (tie.place + 1) none listed.once (omega arith) within) (tie.tied none)

not_equal : (a b : ℤ) → a ≤ℤ b → a ≢ b → a <ℤ b
not_equal a b h ne = grind (arith, ints)

before_or_here : (i j : ℕ) → i < suc j → (i < j) ⊎ (i ≡ j)
before_or_here i j h = grind arith

rise_to : (ns : List Nominal) → NeverFalls ns → HasNoTie ns → (i j : ℕ) (d : Nominal) → i < j → j < length ns → (get_or ns i d).second <ℤ (get_or ns j d).second
rise_to ns up apart i zero d lt within = absurd (omega arith)
rise_to ns up apart i (suc j) d lt within =
    let next : j + 1 ≡ suc j = omega arith in
    let step : (get_or ns j d).second <ℤ (get_or ns (suc j) d).second =
    subst (λ (k : ℕ). (get_or ns j d).second <ℤ (get_or ns k d).second) next (not_equal (get_or ns j d).second (get_or ns (j + 1) d).second (up j d (omega arith)) (apart j d (omega arith))) in
    ⊎_elim
    (λ before. let below = rise_to ns up apart i j d before (omega arith) in omega (arith, ints))
    (λ here. subst (λ (k : ℕ). (get_or ns k d).second <ℤ (get_or ns (suc j) d).second) (sym here) step)
    (before_or_here i j lt)

-- without one the seconds rise
pub seconds_rise : (ns : List Nominal) → NeverFalls ns → HasNoTie ns → AllPairs (λ m n. m.second <ℤ n.second) ns
seconds_rise ns up apart = rise_to ns up apart
