-- The instants that the code reckons one after another.
use Rattle.std.proofs.Common.{◌≡◌, ℕ, ◌+◌, ◌-◌, ◌<◌, ◌≤◌, ◌⊎◌, ⊎_elim, List, [], ◌∷◌, ◌++◌, length, get_or, drop, Option, Some, refl, sym, ap, subst, ◌∙◌, ℤ, pos, ◌<ℤ◌, ◌≤ℤ◌, arith}
use Rattle.std.specs.Prelude.{slice_get, AllPairs}
use Rattle.std.specs.Option.{option_map_or}
use Rattle.std.proofs.lemmas.Int.{ints}
use Rattle.std.proofs.lemmas.List.{append_assoc, append-nil, length-append, get_or_append_left, get_or_at, drop_more, drop_all}
use Rattle.std.proofs.lemmas.List.Quantifiers.{all_pairs_push}
use Rattle.zic_lines.specs.declared.rule_line.Rule.{Rule}
use Rattle.zic_source.specs.Sound.{IsWithinDay}
use Rattle.zic_states.specs.declared.nominal.Nominal.{Nominal}
use Rattle.zic_states.specs.declared.occurrence.TimedOccurrence.{TimedOccurrence}
use Rattle.zic_states.specs.Order.{instant_by}
use Rattle.zic_states.specs.code.Timed.{saving_of, instant_of, timed_from, HasFall, ComesAfter, ComesNotAfter}

-- instants rise
abbrev pub Rise : List TimedOccurrence → Type 0
Rise xs = AllPairs (λ a b. a.instant <ℤ b.instant) xs

-- the first n of some occurrences are timed, and so much was saved just before the next
pub record AreTimed (rules : List Rule) (offset : ℤ) (ns : List Nominal) (n : ℕ) (xs : List TimedOccurrence) (saved : ℤ) : Type 0 where
  pub all : xs ++ timed_from rules offset saved (drop n ns) ≡ timed_from rules offset (pos 0) ns
  pub rising : Rise xs
  pub within : IsWithinDay saved

pub none_timed : (rules : List Rule) (offset : ℤ) (ns : List Nominal) (xs : List TimedOccurrence) → xs ≡ [] → AreTimed rules offset ns 0 xs (pos 0)
none_timed rules offset ns xs e = record {
  all = ap (λ (l : List TimedOccurrence). l ++ timed_from rules offset (pos 0) ns) e;
  rising = subst (λ (l : List TimedOccurrence). Rise l) (sym e) (λ i j d lt within. absurd (omega arith));
  within = omega arith;
}

pub instant_is : (rules : List Rule) (offset saved : ℤ) (n : Nominal) (rule : Rule) → slice_get rules n.rule ≡ Some rule → instant_of rules offset saved n ≡ instant_by rule.moment.at.form offset saved n.second
unfolding instant_of
instant_is rules offset saved n rule at = ap (λ (o : Option Rule). option_map_or (λ (r : Rule). instant_by r.moment.at.form offset saved n.second) o (pos 0)) at

pub saving_is : (rules : List Rule) (number : ℕ) (rule : Rule) → slice_get rules number ≡ Some rule → saving_of rules number ≡ rule.saving.seconds
unfolding saving_of
saving_is rules number rule at = ap (λ (o : Option Rule). option_map_or (λ (r : Rule). r.saving.seconds) o (pos 0)) at

next_timed : (rules : List Rule) (offset saved : ℤ) (ns : List Nominal) (place : ℕ) (n d : Nominal) (rule : Rule) → place < length ns → n ≡ get_or ns place d → slice_get rules n.rule ≡ Some rule
    → timed_from rules offset saved (drop place ns) ≡ record { instant = instant_by rule.moment.at.form offset saved n.second; rule = n.rule; year = n.year } ∷ timed_from rules offset rule.saving.seconds (drop (place + 1) ns)
unfolding timed_from
next_timed rules offset saved ns place n d rule within is at =
    let rest = drop (place + 1) ns in
    ap (λ (l : List Nominal). timed_from rules offset saved l) (drop_more ns place d within ∙ ap (λ (m : Nominal). m ∷ rest) (sym is))
    ∙ ap (λ (t : ℤ). record { instant = t; rule = n.rule; year = n.year } ∷ timed_from rules offset (saving_of rules n.rule) rest) (instant_is rules offset saved n rule at)
    ∙ ap (λ (s : ℤ). record { instant = instant_by rule.moment.at.form offset saved n.second; rule = n.rule; year = n.year } ∷ timed_from rules offset s rest) (saving_is rules n.rule rule at)

none_left : (rules : List Rule) (offset saved : ℤ) → timed_from rules offset saved [] ≡ []
unfolding timed_from
none_left rules offset saved = refl

before_or_last : (k n : ℕ) → k < n → (k < n - 1) ⊎ (k ≡ n - 1)
before_or_last k n h = grind arith

above_last : (xs : List TimedOccurrence) (t : ℤ) → Rise xs → ComesAfter xs t → (k : ℕ) (d : TimedOccurrence) → k < length xs → (get_or xs k d).instant <ℤ t
above_last xs t rising after k d within =
    let last : (get_or xs (length xs - 1) d).instant <ℤ t = after d (omega arith) in
    ⊎_elim
    (λ before. let below : (get_or xs k d).instant <ℤ (get_or xs (length xs - 1) d).instant = rising k (length xs - 1) d before (omega arith) in omega (arith, ints))
    (λ here. subst (λ (j : ℕ). (get_or xs j d).instant <ℤ t) (sym here) last)
    (before_or_last k (length xs) within)

-- one occurrence more
pub one_timed : (rules : List Rule) (offset saved : ℤ) (ns : List Nominal) (place : ℕ) (n d : Nominal) (rule : Rule) (xs ys : List TimedOccurrence) (t : ℤ) → AreTimed rules offset ns place xs saved
    → place < length ns → n ≡ get_or ns place d → slice_get rules n.rule ≡ Some rule → IsWithinDay rule.saving.seconds → t ≡ instant_by rule.moment.at.form offset saved n.second → ComesAfter xs t
    → ys ≡ xs ++ record { instant = t; rule = n.rule; year = n.year } ∷ [] → AreTimed rules offset ns (place + 1) ys rule.saving.seconds
one_timed rules offset saved ns place n d rule xs ys t are within is at small reckoned after e =
    let x : TimedOccurrence = record { instant = t; rule = n.rule; year = n.year } in
    let rest = timed_from rules offset rule.saving.seconds (drop (place + 1) ns) in
    let next = next_timed rules offset saved ns place n d rule within is at in
    record {
      all = ap (λ (l : List TimedOccurrence). l ++ rest) e ∙ append_assoc xs (x ∷ []) rest
          ∙ ap (λ (s : ℤ). xs ++ record { instant = s; rule = n.rule; year = n.year } ∷ rest) reckoned
          ∙ ap (λ (l : List TimedOccurrence). xs ++ l) (sym next) ∙ are.all;
      rising = subst (λ (l : List TimedOccurrence). Rise l) (sym e) (all_pairs_push (λ a b. a.instant <ℤ b.instant) xs x are.rising (λ k c lt. above_last xs t are.rising after k c lt));
      within = small;
    }

-- an occurrence that doesn't come after the one before it
pub one_falls : (rules : List Rule) (offset saved : ℤ) (ns : List Nominal) (place : ℕ) (n d : Nominal) (rule : Rule) (xs : List TimedOccurrence) (t : ℤ) → AreTimed rules offset ns place xs saved
    → place < length ns → n ≡ get_or ns place d → slice_get rules n.rule ≡ Some rule → t ≡ instant_by rule.moment.at.form offset saved n.second → ComesNotAfter xs t
    → HasFall (timed_from rules offset (pos 0) ns)
one_falls rules offset saved ns place n d rule xs t are within is at reckoned falls =
    let x : TimedOccurrence = record { instant = t; rule = n.rule; year = n.year } in
    let rest = timed_from rules offset rule.saving.seconds (drop (place + 1) ns) in
    let next = next_timed rules offset saved ns place n d rule within is at in
    let whole : xs ++ x ∷ rest ≡ timed_from rules offset (pos 0) ns =
    ap (λ (s : ℤ). xs ++ record { instant = s; rule = n.rule; year = n.year } ∷ rest) reckoned ∙ ap (λ (l : List TimedOccurrence). xs ++ l) (sym next) ∙ are.all in
    let some : 0 < length xs = falls.0 in
    let last : length xs - 1 + 1 ≡ length xs = omega arith in
    subst (λ (l : List TimedOccurrence). HasFall l) whole (record {
      place = length xs - 1;
      within = omega (arith, length-append xs (x ∷ rest));
      falls = λ c.
          let here : get_or (xs ++ x ∷ rest) (length xs - 1 + 1) c ≡ x = ap (λ (k : ℕ). get_or (xs ++ x ∷ rest) k c) last ∙ get_or_at xs x rest c (length xs) refl in
          let there : get_or (xs ++ x ∷ rest) (length xs - 1) c ≡ get_or xs (length xs - 1) c = get_or_append_left xs (x ∷ rest) c (length xs - 1) (omega arith) in
          let order : t ≤ℤ (get_or xs (length xs - 1) c).instant = falls.1 c in
          subst (λ (a : TimedOccurrence). a.instant ≤ℤ (get_or (xs ++ x ∷ rest) (length xs - 1) c).instant) (sym here)
          (subst (λ (b : TimedOccurrence). t ≤ℤ b.instant) (sym there) order);
    })

-- all of them
pub all_timed : (rules : List Rule) (offset saved : ℤ) (ns : List Nominal) (place : ℕ) (xs : List TimedOccurrence) → AreTimed rules offset ns place xs saved → length ns ≤ place → xs ≡ timed_from rules offset (pos 0) ns
all_timed rules offset saved ns place xs are past =
    sym (append-nil xs) ∙ ap (λ (l : List TimedOccurrence). xs ++ l) (sym (ap (λ (l : List Nominal). timed_from rules offset saved l) (drop_all place ns past) ∙ none_left rules offset saved)) ∙ are.all
