use Rattle.std.proofs.Common.{FitsSigned, w64}
use Rattle.zic_local.specs.code.Search.{IsWritten}
use Rattle.zic_local.proofs.next.write_due.Given as goal

-- what is due up to the last that is written is written
abbrev pub invariant-loop-count : goal.invariant-loop-count
invariant-loop-count l = record {
  written : IsWritten l.zone l.schedule l.after l.until l.from l.fn.room l.room l.count;
  fits : FitsSigned w64 l.from;
}
