use Rattle.std.proofs.Common.{◌∙◌, drop, sym}
use Rattle.std.proofs.lemmas.List.{take_rest}
use Rattle.zic_columns.specs.Column.{ends_line}
use Rattle.zic_columns.proofs.FoundBytes.{none_within}
use Rattle.zic_columns.proofs.LineScans.{in_front, scan_longer, scan_open, still_closed}
use Rattle.zic_columns.proofs.line_scan.scan_lines_on.Goals as goal

pub returns-then-is_some : goal.returns-then-is_some
returns-then-is_some c = scan_open c.args.delimiter.can c.args.bytes.now c.args.before c.requires.within c.args.scan c.requires.scanned (sym c.is_some.ensures ∙ c.if-is_some.true)

pub returns-in-None : goal.returns-in-None
returns-in-None c =
    let bytes = c.args.bytes.now in
    scan_longer c.args.delimiter.can bytes c.args.before c.requires.within c.args.scan c.requires.scanned (none_within ends_line (drop c.args.before bytes) (rw (take_rest bytes c.args.before) at c.in-None.ensures))

pub scan_lines_from-requires-clause-within : goal.scan_lines_from-requires-clause-within
scan_lines_from-requires-clause-within c = in_front c.args.delimiter.can c.args.bytes.now c.args.before c.requires.within c.args.scan c.requires.scanned

pub scan_lines_from-requires-clause-closed : goal.scan_lines_from-requires-clause-closed
scan_lines_from-requires-clause-closed c = still_closed c.args.delimiter.can c.args.bytes.now c.args.before c.requires.within c.args.scan c.requires.scanned
