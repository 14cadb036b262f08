use Rattle.std.proofs.Common.{◌-◌, ◌<◌, bit_and, arith}
use Rattle.zic_columns.proofs.PairMarks.{pair_found}
use Rattle.zic_columns.proofs.pairs.near_pair.Goals as goal

pub returns : goal.returns
returns c =
    let marks = c.marks_from-marks in
    let rest = c.without_lowest-rest in
    let more : 0 < bit_and marks.result (marks.result - 1) = omega (arith, rest.ensures, c.if-rest-eq0.false) in
    rw rest.ensures (pair_found c.args.delimiter.byte c.args.piece.now c.args.start marks.result marks.ensures more c.args.delimiter.can c.if-piece-stop.false c.in_ok-next.next (rw rest.ensures at c.in_ok-next.ensures))
