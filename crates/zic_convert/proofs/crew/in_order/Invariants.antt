use Rattle.zic_pieces.specs.Task.{AreValues}
use Rattle.zic_convert.proofs.crew.in_order.Given as goal

abbrev pub invariant-loop-i : goal.invariant-loop-i
invariant-loop-i g l = AreValues (g.T.Task.outcome l.task) l.i l.values.items
