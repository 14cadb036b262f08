use Rattle.zic_compare.proofs.Joining.{few_pieces}
use Rattle.zic_compare.proofs.pieces.Round.is_round.Goals as goal

pub returns-clause-few : goal.returns-clause-few
returns-clause-few c = rw (← c.self.view_is) (few_pieces _ c.self.invariant)
