-- The delimiters and line ends of a piece, found a block at a time.
use Rattle.std.specs.Prelude.{◌≡◌, ◌+◌, ◌-◌, ◌^◌, ◌<◌, ◌≤◌, ℕ, true, List, length, slice_index}
use Rattle.std.specs.Int.{bit_at}
use Rattle.zic_columns.specs.code.Block.{ends_field}
use Rattle.zic_columns.specs.declared.ends.FieldEnds.{FieldEnds}

-- The field ends from an index up to `seen` are those that the mask has: bit k stands for the byte k of the block.
pub record ShowsEnds (delimiter : ℕ) (bytes : List ℕ) (at : ℕ) (ends : FieldEnds) : Type 0 where
  pub low : at ≤ ends.seen
  pub before : ends.block ≤ ends.seen
  pub high : ends.seen ≤ length bytes
  pub fits : ends.mask < 2 ^ 64
  pub set : (k : ℕ) → bit_at ends.mask k ≡ 1 → (at ≤ ends.block + k) × (ends.block + k < ends.seen) × (ends_field delimiter (slice_index bytes (ends.block + k)) ≡ true)
  pub all : (j : ℕ) → at ≤ j → j < ends.seen → ends_field delimiter (slice_index bytes j) ≡ true → (ends.block ≤ j) × (bit_at ends.mask (j - ends.block) ≡ 1)
