-- How far the rows of a piece have been made.
use Rattle.std.specs.Prelude.{◌≡◌, ◌+◌, ℕ, List, ◌++◌, None, length}
use Rattle.zic_columns.specs.Own.{CsvRecord, csv_records}
use Rattle.zic_columns.specs.Record.{Splitting}
use Rattle.zic_zones.specs.declared.zones.Releases.{Releases}
use Rattle.zic_piece_rows.specs.code.Batch.{wanted_by}
use Rattle.zic_piece_rows.specs.PieceRows.{AreRowsOf, RowsOf}
use Rattle.zic_piece_rows.specs.declared.piece.Piece.{Piece}

-- a piece is split by its layout
pub record IsSplitBy (piece : Piece) (splitter : Splitting) : Type 0 where
  pub delimiter_is : splitter.delimiter ≡ piece.layout.now.delimiter
  pub piece_is : splitter.piece ≡ piece.bytes.now
  pub wanted_is : splitter.wanted ≡ wanted_by piece.layout.now

-- rows, and those with the rows of some records more, or of fewer, where one ends the run: these records are the first of some that are left
pub record AreNextRows (piece : Piece) (releases : Releases) (old new : RowsOf) (left rest : List CsvRecord) (count : ℕ) : Type 0 where
  pub next : List CsvRecord
  pub parts : left ≡ next ++ rest
  pub long : length next ≡ count
  pub rows : (before : List CsvRecord) → AreRowsOf piece.layout.now releases piece.most piece.first before old → AreRowsOf piece.layout.now releases piece.most piece.first (before ++ next) new
  pub counted : new.fault ≡ None → new.count ≡ old.count + count

-- the rows of the first records of a piece, or of fewer, where one ends the run, and the records that are left to split
pub record AreSoFar (piece : Piece) (releases : Releases) (rows : RowsOf) (splitter : Splitting) : Type 0 where
  pub split : IsSplitBy piece splitter
  pub done : List CsvRecord
  pub parts : csv_records piece.layout.now.delimiter piece.bytes.now ≡ done ++ splitter.left
  pub rows_are : AreRowsOf piece.layout.now releases piece.most piece.first done rows
  pub counted : rows.fault ≡ None → rows.count ≡ length done
