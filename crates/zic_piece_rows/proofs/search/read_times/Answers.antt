use Rattle.zic_zones.specs.Zones.{zone_in}
use Rattle.zic_piece_rows.specs.code.Batch.{record_of}
use Rattle.zic_piece_rows.proofs.Columns.{number_within}
use Rattle.zic_piece_rows.proofs.search.read_times.Goals as goal

pub times_of-requires-clause-file : goal.times_of-requires-clause-file
times_of-requires-clause-file c =
    let piece = c.args.piece.now in
    rw c.requires.file (number_within piece.zones.now (zone_in piece.layout.now.zone (record_of piece c.args.given.now).fields))
