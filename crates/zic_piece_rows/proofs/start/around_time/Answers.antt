use Rattle.std.proofs.Common.{arith}
use Rattle.zic_piece_rows.proofs.Around.{placed_around, whole_before}
use Rattle.zic_piece_rows.proofs.start.around_time.Goals as goal

pub returns-then-given-piece : goal.returns-then-given-piece
returns-then-given-piece c = whole_before c.args.piece.now c.args.given.now c.requires c.if-given-piece.true

pub returns : goal.returns
returns c = rw c.time_place-place.ensures (placed_around c.args.piece.now c.args.given.now c.requires (omega (arith, c.if-given-piece.false)))
