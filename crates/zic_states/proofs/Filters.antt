-- Elements that pass a test, and the last of a list whose instants rise.
use Rattle.std.proofs.Common.{◌≡◌, ◌-◌, Bool, true, false, cond, All, List, [], ◌∷◌, length, get_or, Some, None, inl, inr, ap, subst, ◌∙◌, ⊎_elim, arith, ℤ, ◌<ℤ◌, ◌≤ℤ◌}
use Rattle.std.specs.Prelude.{Contains, filter, int_lt, int_le}
use Rattle.std.proofs.lemmas.Int.{ints}
use Rattle.std.proofs.lemmas.Bool.{cases_lt}
use Rattle.std.proofs.lemmas.List.Elements.{Contains-append_right, All-filter, filter_passes}
use Rattle.std.proofs.lemmas.Option.{slice_get-get_or, get_or_from_slice_get}
use borrow.Author.Differences.{lt-true, le-true}
use Rattle.zic_base.proofs.Elements.{get_contained, contains_got, first_contained, cons_cases}
use Rattle.zic_states.specs.declared.occurrence.TimedOccurrence.{TimedOccurrence}
use Rattle.zic_states.proofs.Same.{one_place}
use Rattle.zic_states.specs.ByList.{AreRising, last_of}

-- ---- tests of order

pub int_lt-true : (a b : ℤ) → a <ℤ b → int_lt a b ≡ true
int_lt-true a b h = grind (arith, ints)

pub int_le-true : (a b : ℤ) → a ≤ℤ b → int_le a b ≡ true
int_le-true a b h = grind (arith, ints)

pub less_from_test : (a b : ℤ) → int_lt a b ≡ true → a <ℤ b
less_from_test a b e = omega (arith, ints, lt-true a b e)

pub not_after_from_test : (a b : ℤ) → int_le a b ≡ true → a ≤ℤ b
not_after_from_test a b e = omega (arith, ints, le-true a b e)

-- ---- what passes

module _ {A : Type 0} (test : A → Bool) where
  -- an element that is kept was there
  pub from_filter : (xs : List A) (y : A) → Contains (filter test xs) y → Contains xs y
  from_filter xs y has =
      let own : All (Contains xs) xs = λ k d lt. contains_got xs k (get_or xs k d) (slice_get-get_or xs k d lt) in
      subst (Contains xs) has.2 (All-filter test (Contains xs) xs own has.0 y has.1)

  -- and passes
  pub passes : (xs : List A) (y : A) → Contains (filter test xs) y → test y ≡ true
  passes xs y has = subst (λ (z : A). test z ≡ true) has.2 (filter_passes test xs has.0 y has.1)

  among_later : (b : Bool) (x : A) (ys : List A) (y : A) → Contains ys y → Contains (cond b (x ∷ ys) ys) y
  among_later true x ys y has = Contains-append_right (x ∷ []) ys y has
  among_later false x ys y has = has

  itself : (b : Bool) (x : A) (ys : List A) → b ≡ true → Contains (cond b (x ∷ ys) ys) x
  itself true x ys e = first_contained x ys
  itself false x ys e = absurd cc

  -- an element that passes is kept
  pub into_filter : (xs : List A) (y : A) → Contains xs y → test y ≡ true → Contains (filter test xs) y
  into_filter [] y has e = absurd (omega (arith, has.1))
  into_filter (x ∷ xs) y has e = ⊎_elim
      (λ same. subst (λ (z : A). Contains (filter test (x ∷ xs)) z) same (itself (test x) x (filter test xs) (ap test same ∙ e)))
      (λ later. among_later (test x) x (filter test xs) y (into_filter xs y later e))
      (cons_cases x xs y has)

-- ---- the last

-- no element of a list that rises comes after the last
pub none_after_last : (xs : List TimedOccurrence) (x y : TimedOccurrence) → AreRising xs → last_of xs ≡ Some x → Contains xs y → y.instant ≤ℤ x.instant
none_after_last xs x y rising last has =
    let at_y = get_contained xs y has in
    elim (cases_lt has.0 (length xs - 1)) [
      | inl lt ↦
          let both = rising has.0 (length xs - 1) x lt (omega (arith, has.1)) in
          let less : y.instant <ℤ x.instant = rw (get_or_from_slice_get xs has.0 y x at_y, get_or_from_slice_get xs (length xs - 1) x x last) at both in
          omega (arith, ints)
      | inr ge ↦
          let same : y ≡ x = one_place xs has.0 (length xs - 1) y x (omega (arith, has.1)) at_y last in
          let time : y.instant ≡ x.instant = ap (λ (z : TimedOccurrence). z.instant) same in
          omega (arith, ints)
    ]

-- a list without a last element has none
pub empty_without_last : (xs : List TimedOccurrence) (y : TimedOccurrence) → last_of xs ≡ None → Contains xs y → ⊥
empty_without_last xs y none has =
    let some = slice_get-get_or xs (length xs - 1) y (omega (arith, has.1)) in
    absurd cc

pub last_contained : (xs : List TimedOccurrence) (x : TimedOccurrence) → last_of xs ≡ Some x → Contains xs x
last_contained xs x last = contains_got xs (length xs - 1) x last
