use Rattle.std.proofs.Common.{◌≡◌, take}
use Rattle.zic_convert.specs.Run.{Notes}
use Rattle.zic_convert.proofs.log.note_all.Given as goal

abbrev pub invariant-loop-fault : goal.invariant-loop-fault
invariant-loop-fault g l = record {
  notes : Notes (g.L.RowLog.noted l.fn.log) (g.L.RowLog.noted l.log) (take l.fault-index l.faults);
  began : g.L.RowLog.began l.log ≡ g.L.RowLog.began l.fn.log;
}
