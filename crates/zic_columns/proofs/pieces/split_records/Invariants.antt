use Rattle.std.proofs.Common.{◌≤◌, ◌-◌}
use Rattle.zic_columns.proofs.FirstFacts.{HasPassed}
use Rattle.zic_columns.proofs.pieces.split_records.Given as goal

abbrev pub invariant-loop-left : goal.invariant-loop-left
invariant-loop-left l = record {
  few : l.left ≤ l.count;
  passed : HasPassed l.delimiter.can l.bytes (l.count - l.left) l.rest;
}

abbrev pub decreases-loop-left : goal.decreases-loop-left
decreases-loop-left l = l.left
