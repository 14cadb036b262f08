use Rattle.std.proofs.Common.{arith}
use Rattle.zic_columns.proofs.PairMarks.{marks_shown}
use Rattle.zic_columns.proofs.pairs.marks_from.Goals as goal

pub returns-then-without_lowest-ne0 : goal.returns-then-without_lowest-ne0
returns-then-without_lowest-ne0 c =
    let marks = c.marks_in-marks in
    marks_shown 32 c.args.delimiter.byte c.args.bytes.now c.args.at (omega (arith, c.requires)) marks.result marks.type_inv marks.ensures

pub returns : goal.returns
returns c = marks_shown 64 c.args.delimiter.byte c.args.bytes.now c.args.at c.requires c.wide_marks_in.result c.wide_marks_in.type_inv c.wide_marks_in.ensures
