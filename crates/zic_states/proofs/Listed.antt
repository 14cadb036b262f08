-- The occurrences of a set in a list, in the order of their instants.
use Rattle.std.proofs.Common.{◌≡◌, ℕ, ◌+◌, ◌<◌, List, length, Some, None, inl, inr, refl, sym, ap, ◌∙◌, subst, arith, get_or, ℤ, ◌<ℤ◌, ◌≤ℤ◌}
use Rattle.std.specs.Prelude.{slice_get}
use Rattle.std.proofs.lemmas.Bool.{cases_order}
use Rattle.std.proofs.lemmas.Int.{ints, by_lt_z}
use Rattle.std.proofs.lemmas.Option.{same_Some, slice_get_within, slice_get_read, get_or_from_slice_get}
use Rattle.zic_states.specs.declared.occurrence.TimedOccurrence.{TimedOccurrence}
use Rattle.zic_states.specs.Occurrence.{RuleSet, Occurrence, IsOccurrence, nominal}
use Rattle.zic_states.specs.Order.{IsFirst, IsPredecessor, IsInstant}
use Rattle.zic_states.specs.Listing.{IsTimedOf, IsListed, AreOccurrencesBefore}
use Rattle.zic_states.specs.Until.{IsNext}
use Rattle.zic_states.proofs.Given.{one_instant, instants_rise}
use Rattle.zic_states.proofs.Ordered.{IsOrdered, same_occurrence, compare_occurrences}

-- all occurrences before the bound of a set in order
pub record IsListing (set : RuleSet) (offset bound : ℤ) (xs : List TimedOccurrence) : Type 0 where
  pub ordered : IsOrdered set offset
  pub listed : AreOccurrencesBefore set offset bound xs

-- the list has this occurrence at this place
pub record IsAt (set : RuleSet) (offset bound : ℤ) (xs : List TimedOccurrence) (k : ℕ) (o : Occurrence) : Type 0 where
  pub x : TimedOccurrence
  pub got : slice_get xs k ≡ Some x
  pub located : IsTimedOf set offset x o
  pub before : nominal o <ℤ bound

-- an element of the list is an occurrence
pub element : {set : RuleSet} {offset bound : ℤ} {xs : List TimedOccurrence} → IsListing set offset bound xs
    → (k : ℕ) (x : TimedOccurrence) → slice_get xs k ≡ Some x → IsListed set offset bound x
element {set} {offset} {bound} {xs} g k x got =
    subst (IsListed set offset bound) (get_or_from_slice_get xs k x x got) (g.listed.each k x (slice_get_within xs k x got))

-- an occurrence before the bound is in the list
pub find : {set : RuleSet} {offset bound : ℤ} {xs : List TimedOccurrence} → IsListing set offset bound xs
    → (o : Occurrence) → IsOccurrence set o → nominal o <ℤ bound → (k : ℕ) × IsAt set offset bound xs k o
find {set} {offset} {bound} {xs} g o is before =
    let any = g.listed.all o is before in
    let got : slice_get xs any.0 ≡ Some any.1 = slice_get_read xs (length xs) any.0 any.1 refl any.2 (sym any.3) in
    let e = element g any.0 any.1 got in
    let same : e.0 ≡ o = same_occurrence set e.0 o e.1.is is (record { number = sym e.1.number ∙ any.4.0; year = sym e.1.year ∙ any.4.1 }) in
    (any.0, record { x = any.1; got = got; located = subst (IsTimedOf set offset any.1) same e.1; before = before })

-- instants rise with the places
rises : {set : RuleSet} {offset bound : ℤ} {xs : List TimedOccurrence} → IsListing set offset bound xs
    → (i j : ℕ) (x y : TimedOccurrence) → slice_get xs i ≡ Some x → slice_get xs j ≡ Some y → i < j → x.instant <ℤ y.instant
rises {set} {offset} {bound} {xs} g i j x y got_x got_y lt =
    let rising = g.listed.rising i j x lt (slice_get_within xs j y got_y) in
    let Second : TimedOccurrence → Type 0 = λ z. (get_or xs i x).instant <ℤ z.instant in
    let First : TimedOccurrence → Type 0 = λ z. z.instant <ℤ y.instant in
    subst First (get_or_from_slice_get xs i x x got_x) (subst Second (get_or_from_slice_get xs j y x got_y) rising)

-- an occurrence before another stands before it
pub stands_before : {set : RuleSet} {offset bound : ℤ} {xs : List TimedOccurrence} → IsListing set offset bound xs
    → (i j : ℕ) (o p : Occurrence) → IsAt set offset bound xs i o → IsAt set offset bound xs j p → nominal o <ℤ nominal p → i < j
stands_before {set} {offset} {bound} {xs} g i j o p at_o at_p lt =
    let given = g.ordered in
    let rise : at_o.x.instant <ℤ at_p.x.instant =
    instants_rise set offset given.sound given.within given.order p o at_p.x.instant at_o.x.instant at_p.located.is at_o.located.is lt at_p.located.instant at_o.located.instant
    in
    elim (cases_order i j) [
      | inl e ↦
          let same : at_o.x ≡ at_p.x = same_Some at_o.x at_p.x (sym at_o.got ∙ ap (slice_get xs) e ∙ at_p.got) in
          let instants : at_o.x.instant ≡ at_p.x.instant = ap (λ (x : TimedOccurrence). x.instant) same in
          absurd (omega (arith, ints))
      | inr (inl before) ↦ before
      | inr (inr after) ↦
          let falls : at_p.x.instant <ℤ at_o.x.instant = rises g j i at_p.x at_o.x at_p.got at_o.got after in
          absurd (omega (arith, ints))
    ]

-- what stands before another is an occurrence before it
comes_before : {set : RuleSet} {offset bound : ℤ} {xs : List TimedOccurrence} → IsListing set offset bound xs
    → (i j : ℕ) (o p : Occurrence) → IsAt set offset bound xs i o → IsAt set offset bound xs j p → i < j → nominal o <ℤ nominal p
comes_before {set} {offset} {bound} {xs} g i j o p at_o at_p lt =
    let given = g.ordered in
    let rise : at_o.x.instant <ℤ at_p.x.instant = rises g i j at_o.x at_p.x at_o.got at_p.got lt in
    elim (compare_occurrences set offset given.order o p at_o.located.is at_p.located.is) [
      | inl before ↦ before
      | inr (inl same) ↦
          let At : Occurrence → Type 0 = λ q. IsInstant set offset q at_o.x.instant in
          let instants : at_o.x.instant ≡ at_p.x.instant =
          one_instant set offset given.sound given.within given.order p at_o.x.instant at_p.x.instant at_p.located.is (subst At same at_o.located.instant) at_p.located.instant
          in
          absurd (omega (arith, ints))
      | inr (inr after) ↦
          let back : j < i = stands_before g j i p o at_p at_o after in
          absurd (omega arith)
    ]

-- The first of the list is the first of all.
pub first_is_next : {set : RuleSet} {offset bound : ℤ} {xs : List TimedOccurrence} → IsListing set offset bound xs
    → (k : ℕ) (p : Occurrence) → k ≡ 0 → IsAt set offset bound xs k p → IsNext set None p
first_is_next {set} {offset} {bound} {xs} g k p none at =
    let first : IsFirst set p = λ q is_q. by_lt_z (nominal q) (nominal p)
    (λ lt.
    let before : nominal q <ℤ bound = let end = at.before in omega (arith, ints) in
    let place = find g q is_q before in
    let less : place.0 < k = stands_before g place.0 k q p place.1 at lt in
    absurd (omega arith))
    (λ le. le)
    in
    (at.located.is, first)

-- The one that stands after another comes next after it.
pub later_is_next : {set : RuleSet} {offset bound : ℤ} {xs : List TimedOccurrence} → IsListing set offset bound xs
    → (j k : ℕ) (o p : Occurrence) → k ≡ j + 1 → IsAt set offset bound xs j o → IsAt set offset bound xs k p → IsNext set (Some o) p
later_is_next {set} {offset} {bound} {xs} g j k o p one_more at_o at_p =
    let greatest : (q : Occurrence) → IsOccurrence set q → nominal q <ℤ nominal p → nominal q ≤ℤ nominal o = λ q is_q lt.
    let before : nominal q <ℤ bound = let end = at_p.before in omega (arith, ints) in
    let place = find g q is_q before in
    let less : place.0 < k = stands_before g place.0 k q p place.1 at_p lt in
    by_lt_z (nominal o) (nominal q)
    (λ between.
    let more : j < place.0 = stands_before g j place.0 o q at_o place.1 between in
    absurd (omega arith))
    (λ le. le)
    in
    let predecessor : IsPredecessor set p o = record {
      is = at_o.located.is;
      earlier = comes_before g j k o p at_o at_p (omega arith);
      greatest = greatest;
    } in
    (at_p.located.is, predecessor)
