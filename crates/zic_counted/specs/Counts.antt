-- The counts of a reader or writer. A count that reaches the greatest `u64` stays there.
use Rattle.std.specs.Prelude.{◌≡◌, ◌+◌, ◌-◌, ◌^◌, ◌<◌, ◌⊎◌, ℕ, min}

-- a reader or writer, the failures of its calls, and the bytes that its reads gave
pub record Counts (T : Type 0) : Type 0 where
  pub inner : T
  pub failures : ℕ
  pub taken : ℕ

-- the greatest value of a count
abbrev pub greatest : ℕ
greatest = 2 ^ 64 - 1

-- a count that rose by n, or reached its greatest value
abbrev pub risen : ℕ → ℕ → ℕ
risen count n = min (count + n) greatest

-- neither count rose
pub record CountsNothing {T : Type 0} (old new : Counts T) : Type 0 where
  pub failures : new.failures ≡ old.failures
  pub taken : new.taken ≡ old.taken

-- the failures rose by one
pub record CountsFailure {T : Type 0} (old new : Counts T) : Type 0 where
  pub failures : new.failures ≡ risen old.failures 1
  pub taken : new.taken ≡ old.taken

-- the bytes that reads gave rose by n
pub record CountsTaken {T : Type 0} (old new : Counts T) (n : ℕ) : Type 0 where
  pub failures : new.failures ≡ old.failures
  pub taken : new.taken ≡ risen old.taken n

-- the failures are above those of before, or at their greatest value
abbrev pub HasFailedSince : {T : Type 0} → Counts T → ℕ → Type 0
HasFailedSince counts before = (before < counts.failures) ⊎ (counts.failures ≡ greatest)

-- more bytes than this number were taken, or as many as can be counted
abbrev pub HasTakenAbove : {T : Type 0} → ℕ → Counts T → Counts T → Type 0
HasTakenAbove most old new = (old.taken + most < new.taken) ⊎ (new.taken ≡ greatest)
