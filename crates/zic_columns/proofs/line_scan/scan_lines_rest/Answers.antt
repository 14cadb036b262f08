use Rattle.std.proofs.lemmas.List.{take_rest}
use Rattle.zic_columns.proofs.ClosedLines.{closed_none}
use Rattle.zic_columns.proofs.LineScans.{lines_passed}
use Rattle.zic_columns.proofs.line_scan.scan_lines_rest.Goals as goal

pub returns-then-count-scan : goal.returns-then-count-scan
returns-then-count-scan c = rw c.if-count-scan.true (lines_passed c.args.delimiter.can c.args.bytes.now c.args.scan c.requires.scanned)

pub scan_lines_from-requires-clause-closed : goal.scan_lines_from-requires-clause-closed
scan_lines_from-requires-clause-closed c = closed_none c.args.delimiter.byte

pub returns : goal.returns
returns c = rw (take_rest c.args.bytes.now c.args.count) at c.scan_lines_from.ensures
