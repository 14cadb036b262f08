use Rattle.std.proofs.Common.{◌≤ℤ◌, pos, ◌-ℤ◌, unsigned_abs, FitsSigned, w64}
use Rattle.std.specs.Int.{int_max}
use Rattle.zic_tzif.specs.Answer.{AnswersThroughout, answered}
use Rattle.zic_dump.specs.Changes.{StaysSame}
use Rattle.zic_dump.proofs.walk.last_change.Given as goal

-- nothing changes after the start of the span
abbrev pub invariant-loop-span : goal.invariant-loop-span
invariant-loop-span l = record {
  reached : l.span.instants.first ≤ℤ l.last;
  some : l.span.instants.first ≤ℤ l.span.instants.last;
  answers : AnswersThroughout l.zone l.span.instants (answered l.span.answer);
  same : StaysSame l.zone l.span.instants.first l.last;
  fits : FitsSigned w64 l.span.instants.first;
}

-- the seconds before the span
abbrev pub decreases-loop-span : goal.decreases-loop-span
decreases-loop-span l = unsigned_abs (int_max (pos 0) (l.span.instants.first -ℤ l.first))
