-- Bytes, cut into pieces.
use Rattle.std.specs.Prelude.{◌≡◌, ◌≤◌, ◌⊎◌, ℕ, List, [], length, take, drop}
use Rattle.zic_columns.specs.Column.{AreWholeRecords, column_records}
use Rattle.zic_columns.specs.Own.{csv_records}
use Rattle.zic_columns.specs.Round.{ArePiecesOf, records_of_pieces}
use Rattle.zic_columns.specs.code.Range.{AreWithin, pieces_at}
use Rattle.zic_columns.specs.declared.pieces.Cut.{Cut}
use Rattle.zic_columns.specs.declared.pieces.TheConstants.{MAX_ROUND_PIECES}

-- pieces of `size` records each, which have the records before the cut
pub record IsCut (delimiter : ℕ) (bytes : List ℕ) (size : ℕ) (cut : Cut) : Type 0 where
  pub within : cut.len ≤ length bytes
  pub ranges : AreWithin cut.ranges.items cut.len
  pub few : length cut.ranges.items ≤ MAX_ROUND_PIECES
  pub sizes : ArePiecesOf delimiter size (pieces_at bytes cut.ranges.items)
  pub records : csv_records delimiter (take cut.len bytes) ≡ records_of_pieces delimiter (pieces_at bytes cut.ranges.items)
  pub whole : (drop cut.len bytes ≡ []) ⊎ AreWholeRecords delimiter (take cut.len bytes)
  pub none : length cut.ranges.items ≡ 0 → column_records delimiter bytes ≡ []
