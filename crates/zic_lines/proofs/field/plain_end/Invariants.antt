use Rattle.std.proofs.Common.{◌≤◌, ◌-◌, length}
use Rattle.std.specs.Prelude.{slice_range}
use Rattle.zic_lines.specs.code.Taken.{ArePlain}
use Rattle.zic_lines.proofs.field.plain_end.Given as goal

abbrev pub invariant-loop-end : goal.invariant-loop-end
invariant-loop-end l = record {
  rises : l.start ≤ l.«end»;
  inside : l.«end» ≤ length l.line;
  plain : ArePlain (slice_range l.line l.start l.«end»);
}

abbrev pub decreases-loop-end : goal.decreases-loop-end
decreases-loop-end l = length l.line - l.«end»
