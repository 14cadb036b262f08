-- Bytes cut after some records.
use Rattle.std.specs.Prelude.{◌≡◌, ◌⊎◌, ℕ, false, List, [], ◌++◌, take, drop, All}
use Rattle.zic_columns.specs.Column.{AreWholeRecords, column_records, ends_line}
use Rattle.zic_columns.specs.code.Line.{AreWholeLines}

-- the bytes, cut after the first `count` records, or after all where there are fewer
pub record AreCutAfter (delimiter : ℕ) (bytes : List ℕ) (count : ℕ) (first rest : List ℕ) : Type 0 where
  pub parts : bytes ≡ first ++ rest
  pub first_records : column_records delimiter first ≡ take count (column_records delimiter bytes)
  pub rest_records : column_records delimiter rest ≡ drop count (column_records delimiter bytes)
  pub whole : (rest ≡ []) ⊎ AreWholeRecords delimiter first

-- the bytes, cut after their last line end
pub record AreCutAfterLines (bytes lines rest : List ℕ) : Type 0 where
  pub parts : bytes ≡ lines ++ rest
  pub whole : AreWholeLines lines
  pub unended : All (λ byte. ends_line byte ≡ false) rest
