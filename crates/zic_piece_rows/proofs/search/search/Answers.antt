use Rattle.zic_zones.specs.Zones.{zone_in}
use Rattle.zic_piece_rows.specs.code.Batch.{record_of}
use Rattle.zic_piece_rows.proofs.Columns.{number_within}
use Rattle.zic_piece_rows.proofs.RowFaults.{unkept}
use Rattle.zic_piece_rows.proofs.search.search.Goals as goal

pub answer_to-requires-clause-within : goal.answer_to-requires-clause-within
answer_to-requires-clause-within c =
    let piece = c.args.piece.now in
    rw c.in-Ok.ensures.is.file at (number_within piece.zones.now (zone_in piece.layout.now.zone (record_of piece c.args.given.now).fields))

pub returns-in-Ok : goal.returns-in-Ok
returns-in-Ok c = (c.in-Ok.ensures.sound, unkept c.args.piece.now c.args.given.now _ c.in-Ok.ensures.is.counts.input_is, c.answer_to.ensures c.args.given.now c.in-Ok.ensures.is)
