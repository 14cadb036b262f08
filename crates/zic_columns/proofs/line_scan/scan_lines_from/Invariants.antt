use Rattle.std.proofs.Common.{◌≤◌, ◌-◌, length, take}
use Rattle.zic_columns.specs.code.LineScan.{AreClosedLines}
use Rattle.zic_columns.proofs.line_scan.scan_lines_from.Given as goal

abbrev pub invariant-loop-whole : goal.invariant-loop-whole
invariant-loop-whole l = record {
  within : l.whole ≤ length l.bytes;
  closed : AreClosedLines l.delimiter.byte (take l.whole l.bytes);
}

abbrev pub decreases-loop-whole : goal.decreases-loop-whole
decreases-loop-whole l = length l.bytes - l.whole
