-- The records of a round, in pieces.
use Rattle.std.specs.Prelude.{◌≡◌, ℕ, ◌+◌, ◌*◌, ◌≤◌, Bool, true, List, [], ◌∷◌, length, slice_get, None, IsSome, IfSome, IfOk, IfErr, Result, Ok, Err, Vec}
use Rattle.std.specs.Borrow.{Bor}
use Rattle.std.specs.Global.{Global}
use Rattle.zic_columns.specs.Own.{csv_records}
use Rattle.zic_columns.specs.Round.{ArePiecesOf}
use Rattle.zic_columns.specs.declared.pieces.TheConstants.{MAX_ROUND_PIECES}
use Rattle.zic_pieces.specs.Task.{AreValues, IsStop}
use Rattle.zic_pieces.specs.declared.task.TaskStop.{TaskStop}
use Rattle.zic_zones.specs.declared.zones.Releases.{Releases}
use Rattle.zic_layouts.specs.declared.layout.Layout.{Layout}
use Rattle.zic_layouts.specs.declared.plan.TheConstants.{MAX_OF_PIECE, MAX_ROWS}
use Rattle.zic_piece_rows.specs.PieceRows.{AreRowsOf, RowsOf}
use Rattle.zic_piece_rows.specs.code.Row.{followed_by}

-- the layout, the releases, the bytes of each piece, the number of the first record as a row, how many rows there may be, how many records a
-- piece has (the last may have fewer), and whether a piece with a row that ends the run stops the task
pub record Pieces : Type 0 where
  pub layout : Layout
  pub releases : Releases
  pub pieces : List (List ℕ)
  pub first : ℕ
  pub most : ℕ
  pub size : ℕ
  pub stops : Bool

-- the limits of a round's pieces
pub record ArePieces (p : Pieces) : Type 0 where
  pub some : 1 ≤ p.size
  pub small : p.size ≤ MAX_OF_PIECE
  pub cut : ArePiecesOf p.layout.delimiter p.size p.pieces
  pub few : length p.pieces ≤ MAX_ROUND_PIECES
  pub least : 1 ≤ p.first
  pub first : p.first ≤ MAX_ROWS + 1

-- the rows of a piece's records
abbrev pub AreRowsOfPiece : Pieces → ℕ → RowsOf → Type 0
AreRowsOfPiece p i rows = IfSome (slice_get p.pieces i) (λ piece. AreRowsOf p.layout p.releases p.most (p.first + i * p.size) (csv_records p.layout.delimiter piece) rows)

-- The outcome of a piece: its rows, up to the first that ends the run, or, where that is to stop the task, a fault.
abbrev pub IsOutcomeOf : Pieces → ℕ → Result RowsOf (Unit {0}) → Type 0
IsOutcomeOf p i (Ok rows) = AreRowsOfPiece p i rows × (p.stops ≡ true → rows.fault ≡ None)
IsOutcomeOf p i (Err fault) = (p.stops ≡ true) × (rows : RowsOf) × AreRowsOfPiece p i rows × IsSome rows.fault

-- the values of all pieces, or the least piece that has none
abbrev pub AreConverted : Pieces → Result (Vec RowsOf Global) (TaskStop (Unit {0})) → Type 0
AreConverted p result = IfOk result (λ values. AreValues (IsOutcomeOf p) (length p.pieces) values.items) × IfErr result (IsStop (IsOutcomeOf p) (length p.pieces))

-- A function converts the pieces of each round.
pub record IsCrew (pre : Bor Pieces → Type 0) (post : Bor Pieces → Result (Vec RowsOf Global) (TaskStop (Unit {0})) → Type 0) : Type 0 where
  pub takes : (p : Bor Pieces) → length p.now.pieces ≤ MAX_ROUND_PIECES → pre p
  pub gives : (p : Bor Pieces) (result : Result (Vec RowsOf Global) (TaskStop (Unit {0}))) → post p result → AreConverted p.now result

-- the rows of pieces one after another, up to the first that ends the run
abbrev pub joined : List RowsOf → RowsOf
joined [] = record { text = []; count = 0; fault = None; faults = [] }
joined (rows ∷ others) = followed_by rows (joined others) rows.fault
