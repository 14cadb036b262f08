use Rattle.std.proofs.Common.{rules}
use Rattle.zic_convert.proofs.Joining.{front_sound}
use Rattle.zic_convert.proofs.pieces.RowPieces.up_to.Goals as goal

pub invariant_of-result : goal.invariant_of-result
invariant_of-result g c = rw c.front.ensures (front_sound _ c.args.i c.self.invariant)

pub returns : goal.returns
returns g c = search rules
