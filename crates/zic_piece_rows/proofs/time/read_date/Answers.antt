use Rattle.std.proofs.Common.{FitsSigned, rules, sym, to_z-of_z}
use Rattle.std.specs.Int.{w128}
use Rattle.zic_piece_rows.proofs.KnownRows.{date_read}
use Rattle.zic_piece_rows.proofs.RowFaults.{row_may}
use Rattle.zic_piece_rows.proofs.time.read_date.Goals as goal

pub returns-in-Some : goal.returns-in-Some
returns-in-Some c = λ has.
    let count = c.in-Some.count in
    let fits : FitsSigned w128 count = search rules in
    let time = c.of_count in
    date_read c.args.piece.now c.args.given.now count time.result c.requires.from c.in-Some.ensures.says c.in-Some.ensures.sound
    (row_may _ (sym (rw (to_z-of_z fits) at c.if-is_in_range.ensures)))
    (record { second = rw (to_z-of_z fits) at time.ensures.second; fraction = rw (to_z-of_z fits) at time.ensures.fraction; unit = time.ensures.unit })
