-- What is noted of a record with a fault, as the code has it.
use Rattle.std.specs.Prelude.{◌≡◌, ◌≤◌, ℕ, List, Option, None, Some, length}
use Rattle.zic_base.specs.declared.row_fault.RowKind.{RowKind}
use Rattle.zic_columns.specs.declared.fields.Record.{Record}
use Rattle.zic_layouts.specs.declared.row_log.FaultDetail.{FaultDetail}
use Rattle.zic_piece_rows.specs.Detail.{line_at, line_feeds_before, value_at_fault}
use Rattle.zic_piece_rows.specs.code.Batch.{record_of}
use Rattle.zic_piece_rows.specs.declared.note.LinesPassed.{LinesPassed}
use Rattle.zic_piece_rows.specs.declared.piece.Piece.{Piece}

-- the line feeds before an index of a piece are counted
pub record ArePassed (piece : List ℕ) (passed : LinesPassed) : Type 0 where
  pub within : passed.at ≤ length piece
  pub counted : passed.line_feeds ≡ line_feeds_before piece passed.at

-- what is noted of a record is the line where it begins and the value at fault
pub record IsDetailOf (piece : Piece) (given : Record) (fault : RowKind) (before : ℕ) (passed : LinesPassed) (detail : FaultDetail) : Type 0 where
  pub line : ArePassed piece.bytes.now passed → passed.at ≤ given.own.start → detail.line ≡ line_at before piece.bytes.now given.own.start
  pub value : detail.value.items ≡ value_at_fault piece.layout.now fault (record_of piece given)

-- that is noted where lines are counted, and nothing where they aren't
abbrev pub IsNotedOf : Piece → Record → RowKind → LinesPassed → Option ℕ → Option FaultDetail → Type 0
IsNotedOf piece given fault passed None detail = detail ≡ None
IsNotedOf piece given fault passed (Some before) None = ⊥
IsNotedOf piece given fault passed (Some before) (Some detail) = IsDetailOf piece given fault before passed detail
