-- How many bytes a record has of its own.
use Rattle.std.specs.Prelude.{◌≡◌, ◌≤◌, ℕ, List, ◌∷◌, length, take, drop}
use Rattle.zic_columns.specs.Own.{own_texts}

-- the first `len` bytes are the first record's own, and those of the other records come after them
pub record IsOwnLen (delimiter : ℕ) (bytes : List ℕ) (len : ℕ) : Type 0 where
  pub within : len ≤ length bytes
  pub first : own_texts delimiter bytes ≡ take len bytes ∷ own_texts delimiter (drop len bytes)
