use Rattle.std.proofs.Common.{pos, ◌-ℤ◌, unsigned_abs}
use Rattle.std.specs.Int.{int_max}
use Rattle.zic_tzif.specs.Answer.{answered}
use Rattle.zic_local.specs.code.Indexing.{IsQuiet}
use Rattle.zic_local.proofs.indexed.gap_after.Given as goal

abbrev pub invariant-loop-span : goal.invariant-loop-span
invariant-loop-span l = IsQuiet l.zone l.local l.span.instants (answered l.span.answer)

-- the seconds after the span
abbrev pub decreases-loop-span : goal.decreases-loop-span
decreases-loop-span l = unsigned_abs (int_max (pos 0) (l.end -ℤ l.span.instants.last))
