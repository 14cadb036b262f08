use Rattle.std.proofs.Common.{◌≡◌, ◌++◌, map, string_bytes, take}
use Rattle.zic_compare.specs.Refused.{lines_with}
use Rattle.zic_compare.proofs.refused.push_names.Given as goal

-- the lines of the names so far
abbrev pub invariant-loop-i : goal.invariant-loop-i
invariant-loop-i l = l.lines.items ≡ l.fn.lines.items ++ lines_with l.after (map string_bytes (take l.i l.names))
