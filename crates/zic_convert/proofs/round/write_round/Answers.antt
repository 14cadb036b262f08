use Rattle.std.proofs.Common.{inr, arith}
use Rattle.zic_convert.specs.code.Pieces.{joined}
use Rattle.zic_columns.specs.Round.{records_of_pieces}
use Rattle.zic_convert.proofs.Halts.{few}
use Rattle.zic_convert.proofs.Joining.{few_records, joined_round, pieces_end}
use Rattle.zic_convert.proofs.TooMany.{left_few}
use Rattle.zic_convert.proofs.round.write_round.Goals as goal

pub write_rows-requires : goal.write_rows-requires
write_rows-requires g c =
    let p = c.args.pieces.now in
    let rows = c.args.rows.now in
    let sound = c.first-first.ensures.sound in
    let all = joined_round p rows sound c.requires.values in
    omega (arith, few p.layout p.releases p.most p.first (records_of_pieces p.layout.delimiter p.pieces) (joined rows) all, few_records p sound, sound.first, c.first-first.ensures.first)

pub end_at_fault-requires-clause-fault : goal.end_at_fault-requires-clause-fault
end_at_fault-requires-clause-fault g c =
    (c.args.left, (joined c.args.rows.now, joined_round c.args.pieces.now c.args.rows.now c.first-first.ensures.sound c.requires.values, c.in-Err.ensures.err.0, c.in-Err.ensures.err.1))

pub returns-in-Ok-write_rows-clause-ok : goal.returns-in-Ok-write_rows-clause-ok
returns-in-Ok-write_rows-clause-ok g c =
    (joined c.args.rows.now, joined_round c.args.pieces.now c.args.rows.now c.first-first.ensures.sound c.requires.values, c.in-Ok-write_rows.ensures.ok, c.in-Ok.ensures.ok)

pub returns-in-Err-write_rows-clause-stop : goal.returns-in-Err-write_rows-clause-stop
returns-in-Err-write_rows-clause-stop g c =
    let p = c.args.pieces.now in
    let rows = c.args.rows.now in
    let sound = c.first-first.ensures.sound in
    inr (
      joined rows,
      joined_round p rows sound c.requires.values,
      pieces_end g.W.Write.contents c.args.writer.now c.write_rows.new.writer (g.L.RowLog.noted c.args.log.now) (g.L.RowLog.noted c.write_rows.new.log) p c.args.left rows sound c.requires.values
          (left_few c.args.left c.in-Ok.left (joined rows).faults c.in-Ok.ensures.ok) c.in-Err-write_rows.stop (rw c.first-first.ensures.first at c.in-Err-write_rows.ensures.err),
    )

pub returns-in-Err-clause-stop : goal.returns-in-Err-clause-stop
returns-in-Err-clause-stop g c =
    c.end_at_fault.ensures.stop c.args.left (joined c.args.rows.now, joined_round c.args.pieces.now c.args.rows.now c.first-first.ensures.sound c.requires.values, c.in-Err.ensures.err.0, c.in-Err.ensures.err.1)
