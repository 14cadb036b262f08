-- Where a search by instants parts a list that rises.
use Rattle.std.proofs.Common.{◌≡◌, ℕ, zero, suc, ◌<◌, Bool, true, false, List, [], ◌∷◌, length, get_or, take, inl, inr, refl, ap, subst, arith, ℤ}
use Rattle.std.specs.Prelude.{filter, int_lt, int_le}
use Rattle.std.specs.List.Sorted.{IsPartitionedBy, IsPartitionPoint}
use Rattle.std.specs.Fn.{Called, ComputesKey}
use Rattle.std.proofs.lemmas.Int.{ints}
use Rattle.std.proofs.lemmas.List.Sorted.{IsPartitionPoint-from_clause}
use denote.Param.Members.{Mut}
use denote.Ref.{Bor}
use Rattle.std.proofs.lemmas.Bool.{cases_lt}
use Rattle.zic_states.specs.declared.occurrence.TimedOccurrence.{TimedOccurrence}
use Rattle.zic_states.specs.ByList.{AreRising}
use Rattle.zic_states.proofs.Filters.{int_lt-true, int_le-true, less_from_test, not_after_from_test}

module _ {A : Type 0} (test : A → Bool) where
  none_pass : (xs : List A) → ((k : ℕ) (d : A) → k < length xs → test (get_or xs k d) ≡ false) → [] ≡ filter test xs
  none_pass [] fail = refl
  none_pass (x ∷ xs) fail = rw (fail 0 x (omega arith)) (none_pass xs (λ k d lt. fail (suc k) d (omega arith)))

  -- what stands before the point is what passes
  take_to_point : (xs : List A) (n : ℕ) → IsPartitionPoint (λ y. test y ≡ true) (λ y. test y ≡ false) xs n → take n xs ≡ filter test xs
  take_to_point [] zero point = refl
  take_to_point [] (suc n) point = refl
  take_to_point (x ∷ xs) zero point = none_pass (x ∷ xs) (λ k d lt. point.1 k d (omega arith) lt)
  take_to_point (x ∷ xs) (suc n) point =
      rw (point.0 0 x (omega arith) (omega arith))
      (ap (λ (ys : List A). x ∷ ys) (take_to_point xs n (λ k d from to. point.0 (suc k) d (omega arith) (omega arith), λ k d from to. point.1 (suc k) d (omega arith) (omega arith))))

  -- so it is with what a search found
  pub filter_from_clause : {F : Type 0} {g : Mut F (Bor A × Unit {0}) Bool} {f : F} (xs : List A) (n : ℕ)
      → ((q : A → Bool) → ComputesKey g q f → IsPartitionedBy q xs → IsPartitionPoint (λ y. q y ≡ true) (λ y. q y ≡ false) xs n) → IsPartitionedBy test xs
      → ((a : Bor A × Unit {0}) (r : Bool) (f' : F) → Called g f a r f' → (r ≡ test a.0.now) × (f' ≡ f)) → take n xs ≡ filter test xs
  filter_from_clause xs n clause parted calls = take_to_point xs n (IsPartitionPoint-from_clause test xs n clause parted calls)

-- ---- lists that rise

pub parted_before : (xs : List TimedOccurrence) (limit : ℤ) → AreRising xs → IsPartitionedBy (λ x. int_lt x.instant limit) xs
parted_before xs limit rising i j d le within e =
    elim (cases_lt i j) [
      | inl lt ↦ int_lt-true (get_or xs i d).instant limit (omega (arith, ints, rising i j d lt within, less_from_test (get_or xs j d).instant limit e))
      | inr ge ↦
          let same : j ≡ i = omega arith in
          subst (λ (k : ℕ). int_lt (get_or xs k d).instant limit ≡ true) same e
    ]

pub parted_not_after : (xs : List TimedOccurrence) (t : ℤ) → AreRising xs → IsPartitionedBy (λ x. int_le x.instant t) xs
parted_not_after xs t rising i j d le within e =
    elim (cases_lt i j) [
      | inl lt ↦ int_le-true (get_or xs i d).instant t (omega (arith, ints, rising i j d lt within, not_after_from_test (get_or xs j d).instant t e))
      | inr ge ↦
          let same : j ≡ i = omega arith in
          subst (λ (k : ℕ). int_le (get_or xs k d).instant t ≡ true) same e
    ]
