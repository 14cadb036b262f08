-- A search among times that rise.
use Rattle.std.specs.Prelude.{ℕ, ◌+◌, ◌*◌, ◌<◌, ◌≤◌, ◌^◌, ℤ, ◌<ℤ◌, ◌≤ℤ◌, List, length, slice_index_or}

-- a time that isn't after t
abbrev pub IsNotAfter : List ℤ → ℤ → ℕ → Type 0
IsNotAfter times t place = (d : ℤ) → slice_index_or times place d ≤ℤ t

abbrev pub IsAfter : List ℤ → ℤ → ℕ → Type 0
IsAfter times t place = (d : ℤ) → t <ℤ slice_index_or times place d

-- The first `count` of the times aren't after t, and the others are.
pub record IsSplit (times : List ℤ) (t : ℤ) (count : ℕ) : Type 0 where
  pub inside : count ≤ length times
  pub not_after : (place : ℕ) → place < count → IsNotAfter times t place
  pub after : (place : ℕ) → count ≤ place → place < length times → IsAfter times t place

-- halving a list of this length, with the place after its end, this number of times leaves one place
pub record AreLevels (levels length : ℕ) : Type 0 where
  pub fits : levels < 63
  pub within : 2 ^ levels ≤ length + 1
  pub enough : length + 1 < 2 * 2 ^ levels

-- At least `base` of the times aren't after t, and fewer than `base + 2 ^ level`.
pub record IsWindow (times : List ℤ) (t : ℤ) (base level : ℕ) : Type 0 where
  pub inside : base + 2 ^ level ≤ length times + 1
  pub not_after : (place : ℕ) → place < base → IsNotAfter times t place
  pub after : (place : ℕ) → base + 2 ^ level ≤ place + 1 → place < length times → IsAfter times t place
