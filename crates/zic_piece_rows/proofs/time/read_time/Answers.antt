use Rattle.zic_piece_rows.proofs.KnownRows.{plain_read}
use Rattle.zic_piece_rows.proofs.time.read_time.Goals as goal

pub returns-in-Count : goal.returns-in-Count
returns-in-Count c = λ has.
    plain_read c.args.piece.now c.args.given.now c.read_plain.result c.in-Count.is c.requires (rw c.in-Plain.is tt) (rw c.in-Plain.is (c.read_plain.ensures has))
