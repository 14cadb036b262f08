use Rattle.zic_files.proofs.Fits.{AreWithinUpTo}
use Rattle.zic_files.proofs.limit.are_within_limits.Given as goal

abbrev pub invariant-loop-number : goal.invariant-loop-number
invariant-loop-number l = AreWithinUpTo l.zone l.number
