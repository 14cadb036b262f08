use Rattle.std.proofs.Common.{◌-◌, ◌<◌, ◌≤◌}
use Rattle.zic_compare.proofs.lists.Lists.round_end.Given as goal

-- the round has a file
abbrev pub invariant-loop-end : goal.invariant-loop-end
invariant-loop-end l = (l.first < l.end) × (l.end ≤ l.most)

abbrev pub decreases-loop-end : goal.decreases-loop-end
decreases-loop-end l = l.most - l.end
