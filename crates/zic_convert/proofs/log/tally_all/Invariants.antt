use Rattle.std.proofs.Common.{◌≡◌}
use Rattle.zic_convert.proofs.log.tally_all.Given as goal

-- nothing was noted
abbrev pub invariant-loop-tally : goal.invariant-loop-tally
invariant-loop-tally g l = record {
  noted : g.L.RowLog.noted l.log ≡ g.L.RowLog.noted l.fn.log;
  began : g.L.RowLog.began l.log ≡ g.L.RowLog.began l.fn.log;
}
