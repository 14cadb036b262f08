use Rattle.std.proofs.Common.{take}
use Rattle.zic_columns.specs.code.Machine.{ReadsTo, state_at}
use Rattle.zic_columns.proofs.machine.record_end.Given as goal

abbrev pub invariant-loop-index : goal.invariant-loop-index
invariant-loop-index l = ReadsTo l.delimiter.byte (state_at l.fn.place) (take l.index l.bytes) (state_at l.place_now)
