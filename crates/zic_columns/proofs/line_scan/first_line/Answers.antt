use Rattle.std.proofs.Common.{◌∙◌, sym}
use Rattle.zic_columns.proofs.LineScans.{closed_first, open_first}
use Rattle.zic_columns.proofs.line_scan.first_line.Goals as goal

pub returns-in-Some : goal.returns-in-Some
returns-in-Some c = open_first c.args.delimiter.can c.args.bytes.now c.in-Some.own c.in-Some.ensures (sym c.is_open.ensures ∙ c.if-is_open.true)

pub returns-in-Some-2 : goal.returns-in-Some-2
returns-in-Some-2 c = closed_first c.args.delimiter.can c.args.bytes.now c.in-Some.own c.in-Some.ensures (sym c.is_open.ensures ∙ c.if-is_open.false)
