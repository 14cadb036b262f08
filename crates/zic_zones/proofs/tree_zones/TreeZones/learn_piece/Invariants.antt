use Rattle.std.proofs.Common.{◌+◌, length}
use Rattle.zic_zones.proofs.Pieces.{LearnsPiece}
use Rattle.zic_zones.proofs.tree_zones.TreeZones.learn_piece.Given as goal

abbrev pub invariant-loop-count : goal.invariant-loop-count
invariant-loop-count g l = LearnsPiece g.T.ZoneTree.replied l.fn.self l.self l.fn.delimiter l.fn.piece l.fn.index l.splitter l.count

abbrev pub decreases-loop-count : goal.decreases-loop-count
decreases-loop-count g l = length l.splitter.left + l.count
