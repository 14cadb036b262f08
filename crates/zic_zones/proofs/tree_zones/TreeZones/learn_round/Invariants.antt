use Rattle.std.proofs.Common.{take}
use Rattle.zic_zones.proofs.Pieces.{LearnsRound}
use Rattle.zic_zones.proofs.tree_zones.TreeZones.learn_round.Given as goal

abbrev pub invariant-loop-number : goal.invariant-loop-number
invariant-loop-number g l = LearnsRound g.T.ZoneTree.replied l.fn.self l.self l.fn.delimiter l.fn.index (take l.number l.fn.round)
