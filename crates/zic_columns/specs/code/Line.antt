-- Lines with their ends, and the first line of some bytes.
use Rattle.std.specs.Prelude.{◌≡◌, ◌+◌, ◌<◌, ◌≤◌, ◌⊎◌, ℕ, true, false, List, [], ◌∷◌, ◌++◌, length, slice_index, take, All}
use Rattle.zic_columns.specs.Column.{AreWholeRecords, column_records, ends_line}

-- each line has its end: the last byte, if there is one, ends a line
abbrev pub AreWholeLines : List ℕ → Type 0
AreWholeLines bytes = (last : ℕ) → last + 1 ≡ length bytes → ends_line (slice_index bytes last) ≡ true

-- the rest are the bytes from the first that ends no line
pub record IsAfterLineEnds (bytes rest : List ℕ) : Type 0 where
  pub skipped : List ℕ
  pub parts : bytes ≡ skipped ++ rest
  pub ends : All (λ byte. ends_line byte ≡ true) skipped
  pub begins : 0 < length rest → ends_line (slice_index rest 0) ≡ false

-- the first `len` bytes hold the first record, and are whole records or all bytes
pub record IsFirstRecord (delimiter : ℕ) (bytes : List ℕ) (len : ℕ) : Type 0 where
  pub some : 0 < len
  pub within : len ≤ length bytes
  pub fields : List (List ℕ)
  pub one : column_records delimiter (take len bytes) ≡ fields ∷ []
  pub whole : (len ≡ length bytes) ⊎ AreWholeRecords delimiter (take len bytes)
