use Rattle.std.proofs.Common.{◌≤◌, ◌-◌, length, take}
use Rattle.zic_compare.specs.code.Rounds.{WritesLines, files_of}
use Rattle.zic_compare.proofs.writing.write_list.Given as goal

-- the lines of the first files were written
abbrev pub invariant-loop-first : goal.invariant-loop-first
invariant-loop-first g l = (l.first ≤ length (files_of l.lists)) × WritesLines g.W.Write.contents l.lists l.names (take l.first (files_of l.lists)) l.fn.writer l.writer l.left

abbrev pub decreases-loop-first : goal.decreases-loop-first
decreases-loop-first g l = length (files_of l.lists) - l.first
