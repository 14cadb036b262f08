use Rattle.std.proofs.Common.{pos, ◌-ℤ◌, unsigned_abs, FitsSigned, w64}
use Rattle.std.specs.Int.{int_max}
use Rattle.zic_compare.specs.Answers.{pair}
use Rattle.zic_compare.specs.code.Run.{AreBefore, IsRun}
use Rattle.zic_compare.proofs.difference.differences.Given as goal

-- the span that comes last, and the differences before it
abbrev pub invariant-loop-run : goal.invariant-loop-run
invariant-loop-run l =
    IsRun (pair l.old l.new l.compared) l.bounds l.run
    × AreBefore (pair l.old l.new l.compared) l.bounds l.run.instants.first l.found.items
    × FitsSigned w64 l.run.instants.last

-- the seconds after the span
abbrev pub decreases-loop-run : goal.decreases-loop-run
decreases-loop-run l = unsigned_abs (int_max (pos 0) (l.bounds.last -ℤ l.run.instants.last))
