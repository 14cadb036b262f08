use Rattle.std.proofs.Common.{◌≡◌, ◌≤◌, ◌-◌, length, map, [], false}
use Rattle.std.specs.Prelude.{slice_range}
use Rattle.zic_lines.specs.Field.{text_in}
use Rattle.zic_lines.specs.code.Taken.{without_quotes}
use Rattle.zic_lines.proofs.Ranges.{outcome_at}
use Rattle.zic_lines.proofs.field.Fields.take_code.Given as goal

abbrev pub invariant-loop-end : goal.invariant-loop-end
invariant-loop-end l = record {
  rises : l.start ≤ l.«end»;
  inside : l.«end» ≤ length l.line;
  bare : l.has_quotes ≡ false → without_quotes (slice_range l.line l.start l.«end») ≡ slice_range l.line l.start l.«end»;
  texts : l.self.texts ≡ map (text_in l.line) l.self.ranges;
  so_far : outcome_at l.line l.self.ranges l.quoted l.start l.«end» ≡ outcome_at l.line [] false 0 0;
}

abbrev pub decreases-loop-end : goal.decreases-loop-end
decreases-loop-end l = length l.line - l.«end»
