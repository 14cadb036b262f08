use Rattle.std.proofs.Common.{◌<◌, ◌+◌, drop, length, sym, arith}
use Rattle.std.proofs.lemmas.List.{length-drop, take_rest}
use Rattle.zic_columns.specs.code.Buffered.{BeginWithLines}
use Rattle.zic_columns.proofs.Scanned.{begins_next, more_ends, more_lines, scanned_all, scanned_begun}
use Rattle.zic_columns.proofs.csv_scan.scan_from.Goals as goal

pub loop-whole-preserved : goal.loop-whole-preserved
loop-whole-preserved c =
    let bytes = c.args.bytes.now in
    let whole = c.loop-whole.whole in
    let n = c.lines_before_quote-whole.result in
    let lines : BeginWithLines (drop whole bytes) n = rw (take_rest bytes whole) at c.lines_before_quote-whole.ensures in
    let within : whole + n < length bytes = omega (arith, lines.within, length-drop whole bytes, c.if-whole-bytes.false, c.loop-whole.invariant.within) in
    let ended = rw (take_rest bytes (whole + n)) at c.in-Ok.ensures in
    record {
      within = omega (arith, ended.within, length-drop (whole + n) bytes, within);
      records = more_ends c.args.delimiter.can bytes (whole + n) (more_lines c.args.delimiter.can bytes whole c.loop-whole.invariant.records n lines) c.in-Ok.len (begins_next bytes whole n lines within) ended;
    }

pub returns-in-Err : goal.returns-in-Err
returns-in-Err c =
    let bytes = c.args.bytes.now in
    let whole = c.loop-whole.whole in
    let n = c.lines_before_quote-whole.result in
    let lines : BeginWithLines (drop whole bytes) n = rw (take_rest bytes whole) at c.lines_before_quote-whole.ensures in
    let within : whole + n < length bytes = omega (arith, lines.within, length-drop whole bytes, c.if-whole-bytes.false, c.loop-whole.invariant.within) in
    let reads = rw (take_rest bytes (whole + n)) at c.in-Err.ensures in
    scanned_begun c.args.delimiter.can bytes (whole + n) (more_lines c.args.delimiter.can bytes whole c.loop-whole.invariant.records n lines) c.in-Err.place (omega (arith, within)) (begins_next bytes whole n lines within) reads

pub returns-then-whole-bytes : goal.returns-then-whole-bytes
returns-then-whole-bytes c =
    let bytes = c.args.bytes.now in
    let whole = c.loop-whole.whole in
    let n = c.lines_before_quote-whole.result in
    let lines : BeginWithLines (drop whole bytes) n = rw (take_rest bytes whole) at c.lines_before_quote-whole.ensures in
    scanned_all c.args.delimiter.can bytes (whole + n) (more_lines c.args.delimiter.can bytes whole c.loop-whole.invariant.records n lines) (sym c.if-whole-bytes.true)
