use Rattle.std.proofs.Common.{pos, ◌-ℤ◌, unsigned_abs, FitsSigned, w64}
use Rattle.std.specs.Int.{int_max}
use Rattle.zic_dump.proofs.onset.push_onsets.Given as goal

abbrev pub invariant-loop-change : goal.invariant-loop-change
invariant-loop-change l = FitsSigned w64 l.from

-- the seconds after the last change
abbrev pub decreases-loop-change : goal.decreases-loop-change
decreases-loop-change l = unsigned_abs (int_max (pos 0) (l.last -ℤ l.from))
