use Rattle.std.proofs.Common.{map, string_bytes, take}
use Rattle.zic_compare.specs.Reading.{IsReadAt}
use Rattle.zic_compare.proofs.sides.read_tree.Given as goal

-- what was learnt by the names so far
abbrev pub invariant-loop-i : goal.invariant-loop-i
invariant-loop-i g l = IsReadAt (map string_bytes (take l.i l.names)) (g.Z.ZoneTree.replied l.fn.tree) (g.Z.ZoneTree.replied l.tree) l.files
