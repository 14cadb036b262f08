-- How a task ends.
use Rattle.std.specs.Prelude.{ℕ, Some}
use Rattle.zic_pieces.specs.declared.task.PieceStop.{PieceStop}
use Rattle.zic_pieces.specs.declared.task.PieceStop.TheVariants.{Fault, Memory}
use Rattle.zic_pieces.specs.declared.task.TaskStop.{TaskStop}
use Rattle.zic_pieces.specs.declared.task.TaskStop.TheVariants.{Fault as FaultAt, Memory as MemoryAt}

-- the end of a task of which piece i is the least that stopped
abbrev pub the_stop : {F : Type 0} → ℕ → PieceStop F → TaskStop F
the_stop i (Fault f) = FaultAt i f
the_stop i Memory = MemoryAt (Some i)
