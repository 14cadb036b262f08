use Rattle.std.proofs.lemmas.List.{take_rest}
use Rattle.zic_columns.proofs.Scanned.{scanned_passed}
use Rattle.zic_columns.proofs.SomeRecords.{whole_none}
use Rattle.zic_columns.proofs.csv_scan.scan_rest.Goals as goal

pub returns-then-count-scan : goal.returns-then-count-scan
returns-then-count-scan c = rw c.if-count-scan.true (scanned_passed c.args.delimiter.byte c.args.bytes.now c.args.scan c.requires.scanned)

pub scan_from-requires-clause-whole : goal.scan_from-requires-clause-whole
scan_from-requires-clause-whole c = whole_none c.args.delimiter.byte

pub returns : goal.returns
returns c = rw (take_rest c.args.bytes.now c.args.count) at c.scan_from.ensures
