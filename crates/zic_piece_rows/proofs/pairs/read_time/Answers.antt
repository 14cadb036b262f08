use Rattle.zic_columns.specs.Record.{pair_record}
use Rattle.zic_piece_rows.proofs.KnownRows.{plain_read}
use Rattle.zic_piece_rows.proofs.pairs.read_time.Goals as goal

pub returns : goal.returns
returns c = λ has.
    plain_read c.args.piece.now (pair_record c.args.pair) c.read_plain.result c.requires.layout.from c.requires.pair.split tt (rw c.requires.unit at (c.read_plain.ensures has))
