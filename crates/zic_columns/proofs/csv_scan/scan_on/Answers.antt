use Rattle.std.proofs.lemmas.List.{take_rest}
use Rattle.zic_columns.proofs.Scanned.{nothing_begun, still_begun, then_whole}
use Rattle.zic_columns.proofs.csv_scan.scan_on.Goals as goal

pub scan_from-requires-clause-whole : goal.scan_from-requires-clause-whole
scan_from-requires-clause-whole c = nothing_begun c.args.delimiter.can c.args.bytes.now c.args.before c.requires.within c.args.scan.whole (rw c.in_default.is at c.requires.scanned)

pub scan_from-requires-in-Ok-clause-whole : goal.scan_from-requires-in-Ok-clause-whole
scan_from-requires-in-Ok-clause-whole c =
    let bytes = c.args.bytes.now in
    then_whole c.args.delimiter.can bytes c.args.before c.requires.within c.args.scan.whole c.in-Some.place (rw c.in-Some.is at c.requires.scanned) c.in-Ok.len (rw (take_rest bytes c.args.before) at c.in-Ok.ensures)

pub returns-in-Err : goal.returns-in-Err
returns-in-Err c =
    let bytes = c.args.bytes.now in
    still_begun c.args.delimiter.can bytes c.args.before c.requires.within c.args.scan.whole c.in-Some.place (rw c.in-Some.is at c.requires.scanned) c.in-Err.place (rw (take_rest bytes c.args.before) at c.in-Err.ensures)
