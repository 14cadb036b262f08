-- Bytes, taken 32 at a time.
use Rattle.std.specs.Prelude.{◌≡◌, ◌+◌, ◌<◌, ◌≤◌, ◌||◌, ◌&&◌, ◌==◌, ℕ, Bool, true, not, if◌then◌else◌, List, [], ◌∷◌, map, length, take}
use Rattle.std.specs.Simd.Lanes.{chunk, mask_l}
use Rattle.zic_columns.specs.Column.{AreWholeRecords, HasNoQuote, column_records, ends_line}
use Rattle.zic_columns.specs.declared.blocks.Passed.{Passed}

-- a delimiter or a line end
abbrev pub ends_field : ℕ → ℕ → Bool
ends_field delimiter byte = byte == delimiter || ends_line byte

-- bit k is set where byte k of the 32 from an index on passes the test
abbrev pub mask_at : (ℕ → Bool) → List ℕ → ℕ → ℕ
mask_at test bytes at = mask_l (map test (chunk at 32 bytes))

-- the number of records that end in bytes without a double quote, where a line ended before them
-- or did not
unfoldable pub records_ended : Bool → List ℕ → ℕ
records_ended before [] = 0
records_ended before (byte ∷ bytes) =
    (if ends_line byte && not before then 1 else 0) + records_ended (ends_line byte) bytes

-- whether a line ended with the last of the bytes, or before them where there is none
unfoldable pub is_after_line : Bool → List ℕ → Bool
is_after_line before [] = before
is_after_line before (byte ∷ bytes) = is_after_line (ends_line byte) bytes

-- the first bytes have no double quote, and fewer records end in them than `most`
pub record AreCounted (bytes : List ℕ) (most : ℕ) (passed : Passed) : Type 0 where
  pub within : passed.len ≤ length bytes
  pub plain : HasNoQuote (take passed.len bytes)
  pub counted : passed.records ≡ records_ended true (take passed.len bytes)
  pub few : passed.records < most

-- the first bytes are whole records, fewer than `most`
pub record ArePassed (delimiter : ℕ) (bytes : List ℕ) (most : ℕ) (passed : Passed) : Type 0 where
  pub within : passed.len ≤ length bytes
  pub whole : AreWholeRecords delimiter (take passed.len bytes)
  pub counted : length (column_records delimiter (take passed.len bytes)) ≡ passed.records
  pub few : passed.records < most
