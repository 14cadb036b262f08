use Rattle.std.proofs.Common.{◌+◌, ◌<◌, arith}
use Rattle.zic_convert.specs.code.Pieces.{joined}
use Rattle.zic_columns.specs.Round.{records_of_pieces}
use Rattle.zic_convert.proofs.Halts.{few}
use Rattle.zic_convert.proofs.Joining.{few_records, joined_low, low_ends, low_fails, low_stops, row_positive}
use Rattle.zic_convert.proofs.round.end_at_fault.Goals as goal

pub before-before-requires : goal.before-before-requires
before-before-requires g c = row_positive c.args.pieces.now c.requires.fault.0 c.args.fault c.first-first.ensures.sound c.requires.fault.1

pub write_rows-requires : goal.write_rows-requires
write_rows-requires g c =
    let p = c.args.pieces.now in
    let sound = c.first-first.ensures.sound in
    let rows = c.in-Ok.rows.items in
    let all = joined_low p sound c.args.fault rows (rw c.before-before.ensures at c.in-Ok.ensures.ok) in
    let few_rows = few p.layout p.releases _ p.first (records_of_pieces p.layout.delimiter p.pieces) (joined rows) all in
    let fits : p.first + (joined rows).count < 18446744073709551616 = omega (arith, few_rows, few_records p sound, sound.first) in
    rw (c.first-first.ensures.first, c.deref.ensures.value) fits

pub unreachable-requires : goal.unreachable-requires
unreachable-requires g c =
    let none = rw c.deref.ensures.value at c.in-Ok-write_rows.ensures.ok.0 in
    low_ends c.args.pieces.now c.first-first.ensures.sound c.args.fault c.in-Ok.rows.items (rw c.before-before.ensures at c.in-Ok.ensures.ok) c.requires.fault.0 c.requires.fault.1 none

pub returns-in-Row-clause-stop : goal.returns-in-Row-clause-stop
returns-in-Row-clause-stop g c = λ limit many.
    low_stops c.args.pieces.now c.first-first.ensures.sound c.args.fault c.in-Ok.rows.items (rw c.before-before.ensures at c.in-Ok.ensures.ok) limit many
    g.W.Write.contents c.args.writer.now c.write_rows.new.writer (g.L.RowLog.noted c.args.log.now) (g.L.RowLog.noted c.write_rows.new.log) c.in-Row.row c.in-Row.kind
    (rw (c.in-Row.is, c.first-first.ensures.first, c.deref.ensures.value) at c.in-Err-write_rows.ensures.err)

pub returns-clause-stop : goal.returns-clause-stop
returns-clause-stop g c = λ limit many.
    low_fails c.args.pieces.now c.first-first.ensures.sound c.args.fault c.in-Ok.rows.items (rw c.before-before.ensures at c.in-Ok.ensures.ok) limit many
    g.W.Write.contents c.args.writer.now c.write_rows.new.writer (g.L.RowLog.noted c.args.log.now) (g.L.RowLog.noted c.write_rows.new.log) c.in-Err-write_rows.stop
    (λ row kind is. c.in_default.not-Row row kind is)
    (rw (c.first-first.ensures.first, c.deref.ensures.value) at c.in-Err-write_rows.ensures.err)
