-- The outcome of a task: a value or a fault for each piece.
use Rattle.std.specs.Prelude.{◌≡◌, ℕ, ◌<◌, List, length, Some, None, Result, Ok, Err}
use mathlib.Core.Option.{some}
use lib.ListN.{get_elem?}
use Rattle.zic_pieces.specs.declared.task.PieceStop.{PieceStop}
use Rattle.zic_pieces.specs.declared.task.PieceStop.TheVariants.{Fault, Memory}
use Rattle.zic_pieces.specs.declared.task.TaskStop.{TaskStop}
use Rattle.zic_pieces.specs.declared.task.TaskStop.TheVariants.{Fault as FaultAt, Memory as MemoryAt, NoThread}

module _ {X F : Type 0} where
  -- a fault is the piece's own; that memory ran out says nothing about it
  abbrev pub IsReason : (Result X F → Type 0) → PieceStop F → Type 0
  IsReason outcome (Fault f) = outcome (Err f)
  IsReason outcome Memory = Unit {0}

  -- a value is the piece's own
  abbrev pub IsOutcome : (Result X F → Type 0) → Result X (PieceStop F) → Type 0
  IsOutcome outcome (Ok x) = outcome (Ok x)
  IsOutcome outcome (Err stop) = IsReason outcome stop

  -- every piece below m has a value
  abbrev pub HaveValues : (ℕ → Result X F → Type 0) → ℕ → Type 0
  HaveValues outcome m = (i : ℕ) → i < m → (x : X) × outcome i (Ok x)

  -- the values of all n pieces, in order
  abbrev pub AreValues : (ℕ → Result X F → Type 0) → ℕ → List X → Type 0
  AreValues outcome n xs =
      (length xs ≡ n) × ((i : ℕ) (x : X) → get_elem? xs i ≡ some x → outcome i (Ok x))

  -- The least piece that stopped the task: every piece below it has a value. A task never stops
  -- because a thread can't be started
  abbrev pub IsStop : (ℕ → Result X F → Type 0) → ℕ → TaskStop F → Type 0
  IsStop outcome n (FaultAt i f) = (i < n) × HaveValues outcome i × outcome i (Err f)
  IsStop outcome n (MemoryAt (Some i)) = (i < n) × HaveValues outcome i
  IsStop outcome n (MemoryAt None) = Unit {0}
  IsStop outcome n NoThread = ⊥
