use Rattle.std.proofs.Common.{◌≡◌, None, take}
use Rattle.zic_convert.specs.Run.{Notes}
use Rattle.zic_convert.specs.code.Pieces.{joined}
use Rattle.zic_convert.specs.code.Written.{Wrote}
use Rattle.zic_convert.proofs.output.write_rows.Given as goal

-- the rows of the first pieces were written, their faults were noted, and none of them ends the run
abbrev pub invariant-loop-rows : goal.invariant-loop-rows
invariant-loop-rows g l = record {
  goes_on : (joined (take l.rows-index l.pieces)).fault ≡ None;
  count : l.count ≡ (joined (take l.rows-index l.pieces)).count;
  wrote : Wrote g.W.Write.contents l.fn.writer l.writer (joined (take l.rows-index l.pieces)).text;
  began : g.L.RowLog.began l.log ≡ g.L.RowLog.began l.fn.log;
  noted : Notes (g.L.RowLog.noted l.fn.log) (g.L.RowLog.noted l.log) (joined (take l.rows-index l.pieces)).faults;
}
