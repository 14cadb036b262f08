-- The gap between two times that rise.
use Rattle.std.proofs.Common.{◌≡◌, ℕ, ◌+◌, ◌<◌, ◌≤◌, ℤ, pos, ◌+ℤ◌, ◌-ℤ◌, ◌<ℤ◌, ◌≤ℤ◌, ◌⊎◌, inl, inr, List, length, get_or, AllPairs, Contains, FitsSigned, w64, arith}
use Rattle.std.proofs.lemmas.Bool.{cases_lt}
use Rattle.std.proofs.lemmas.Int.{ints}
use Rattle.std.proofs.lemmas.List.{get_or_default}
use Rattle.std.proofs.lemmas.List.Elements.{Contains-get_or}
use Rattle.zic_posix.specs.declared.span.Instants.{Instants}
use Rattle.zic_posix.specs.declared.span.TheConstants.{MIN_INSTANT, MAX_INSTANT}
use Rattle.zic_posix.specs.Instants.{Includes, AreBetween}
use Rattle.zic_tzif.specs.code.Window.{IsSplit}

-- the first instant is that of the last time that has come, or the first of all
abbrev pub IsFirst : List ℤ → ℕ → ℤ → Type 0
IsFirst times count first = ((count ≡ 0) × (first ≡ MIN_INSTANT)) ⊎ ((place : ℕ) × (count ≡ place + 1) × (first ≡ get_or times place (pos 0)))

-- the last is just before the next time, or the last of all
abbrev pub IsLast : List ℤ → ℕ → ℤ → Type 0
IsLast times count last = ((count ≡ length times) × (last ≡ MAX_INSTANT)) ⊎ ((count < length times) × (last ≡ get_or times count (pos 0) -ℤ pos 1))

module _ (times : List ℤ) (t : ℤ) (count : ℕ) (gap : Instants) (rising : AllPairs (λ a b. a <ℤ b) times) (split : IsSplit times t count)
    (fits : FitsSigned w64 t) (first_is : IsFirst times count gap.first) (last_is : IsLast times count gap.last) where
  no_later : (i j : ℕ) (d : ℤ) → i ≤ j → j < length times → get_or times i d ≤ℤ get_or times j d
  no_later i j d before within = elim (cases_lt i j) [
    | inl less ↦ let lower : get_or times i d <ℤ get_or times j d = rising i j d less within in omega (arith, ints, lower)
    | inr not ↦ let same : i ≡ j = omega (arith, before, not) in rw same (omega (arith, ints))
  ]

  pub requested : Includes gap t
  requested = record {
    from = elim first_is [
      | inl none ↦ omega (arith, ints, none.1)
      | inr some ↦ let come : get_or times some.0 (pos 0) ≤ℤ t = split.not_after some.0 (omega (arith, some.1)) (pos 0) in omega (arith, ints, some.2, come)
    ];
    to = elim last_is [
      | inl none ↦ omega (arith, ints, none.1)
      | inr some ↦ let to_come : t <ℤ get_or times count (pos 0) = split.after count (omega arith) some.0 (pos 0) in omega (arith, ints, some.1, to_come)
    ];
  }

  begins : (gap.first ≡ MIN_INSTANT) ⊎ Contains times gap.first
  begins = elim first_is [
    | inl none ↦ inl none.1
    | inr some ↦ let inside = split.inside in inr (rw some.2 (Contains-get_or times some.0 (pos 0) (omega (arith, some.1, inside))))
  ]

  ends : (gap.last ≡ MAX_INSTANT) ⊎ Contains times (gap.last +ℤ pos 1)
  ends = elim last_is [
    | inl none ↦ inl none.1
    | inr some ↦ let next : gap.last +ℤ pos 1 ≡ get_or times count (pos 0) = omega (arith, ints, some.1) in inr (rw next (Contains-get_or times count (pos 0) some.0))
  ]

  not_early : (u : ℤ) (k : ℕ) → gap.first <ℤ u → k < length times → get_or times k u ≡ u → k < count → ⊥
  not_early u k after within is below = elim first_is [
    | inl none ↦ omega (arith, none.0, below)
    | inr some ↦
        let inside = split.inside in
        let there : some.0 < length times = omega (arith, some.1, inside) in
        let least : get_or times k u ≤ℤ get_or times some.0 u = no_later k some.0 u (omega (arith, some.1, below)) there in
        let same : get_or times some.0 u ≡ get_or times some.0 (pos 0) = get_or_default times some.0 u (pos 0) there in
        omega (arith, ints, is, least, same, some.2, after)
  ]

  not_late : (u : ℤ) (k : ℕ) → u ≤ℤ gap.last → k < length times → get_or times k u ≡ u → count ≤ k → ⊥
  not_late u k before within is from = elim last_is [
    | inl none ↦ omega (arith, none.0, within, from)
    | inr some ↦
        let least : get_or times count u ≤ℤ get_or times k u = no_later count k u from within in
        let same : get_or times count u ≡ get_or times count (pos 0) = get_or_default times count u (pos 0) some.0 in
        omega (arith, ints, is, least, same, some.1, before)
  ]

  pub between : AreBetween (Contains times) gap
  between = record {
    first = begins;
    last = ends;
    none = λ u after before time. elim (cases_lt time.0 count) [
      | inl below ↦ not_early u time.0 after time.1 time.2 below
      | inr from ↦ not_late u time.0 before time.1 time.2 from
    ];
  }
