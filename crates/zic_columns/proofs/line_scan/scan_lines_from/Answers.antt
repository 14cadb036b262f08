use Rattle.std.proofs.Common.{◌≤◌, ◌+◌, drop, length, arith}
use Rattle.std.proofs.lemmas.List.{length-drop, take_rest}
use Rattle.zic_columns.specs.code.Buffered.{BeginWithLines}
use Rattle.zic_columns.proofs.LineScans.{closed_lines, closed_more, scan_all, scan_opened, scan_unended}
use Rattle.zic_columns.proofs.line_scan.scan_lines_from.Goals as goal

pub loop-whole-preserved : goal.loop-whole-preserved
loop-whole-preserved c =
    let bytes = c.args.bytes.now in
    let whole = c.loop-whole.whole in
    let n = c.lines_before_quote-whole.result in
    let lines : BeginWithLines (drop whole bytes) n = rw (take_rest bytes whole) at c.lines_before_quote-whole.ensures in
    let first = rw (take_rest bytes (whole + n)) at c.in-Closed.ensures in
    record {
      within = omega (arith, first.1, length-drop (whole + n) bytes, lines.within, length-drop whole bytes, c.loop-whole.invariant.within);
      closed = closed_more c.args.delimiter.can bytes (whole + n) (closed_lines c.args.delimiter.can bytes whole c.loop-whole.invariant.closed n lines) c.in-Closed.len first.2;
    }

pub returns-in-Open : goal.returns-in-Open
returns-in-Open c =
    let bytes = c.args.bytes.now in
    let whole = c.loop-whole.whole in
    let n = c.lines_before_quote-whole.result in
    let lines : BeginWithLines (drop whole bytes) n = rw (take_rest bytes whole) at c.lines_before_quote-whole.ensures in
    let within : whole + n ≤ length bytes = omega (arith, lines.within, length-drop whole bytes, c.loop-whole.invariant.within) in
    scan_opened c.args.delimiter.can bytes (whole + n) (closed_lines c.args.delimiter.can bytes whole c.loop-whole.invariant.closed n lines) c.in-Open.line within (rw (take_rest bytes (whole + n)) at c.in-Open.ensures)

pub returns-in-Unended : goal.returns-in-Unended
returns-in-Unended c =
    let bytes = c.args.bytes.now in
    let whole = c.loop-whole.whole in
    let n = c.lines_before_quote-whole.result in
    let lines : BeginWithLines (drop whole bytes) n = rw (take_rest bytes whole) at c.lines_before_quote-whole.ensures in
    let within : whole + n ≤ length bytes = omega (arith, lines.within, length-drop whole bytes, c.loop-whole.invariant.within) in
    scan_unended c.args.delimiter.can bytes (whole + n) (closed_lines c.args.delimiter.can bytes whole c.loop-whole.invariant.closed n lines) within (rw (take_rest bytes (whole + n)) at c.in-Unended.ensures)

pub returns : goal.returns
returns c = scan_all c.args.delimiter.can c.args.bytes.now c.loop-whole.whole c.loop-whole.invariant.closed c.loop-whole.invariant.within c.loop-whole-test.false
