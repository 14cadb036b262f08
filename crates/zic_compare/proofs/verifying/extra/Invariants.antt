use Rattle.std.proofs.Common.{map, string_bytes, take}
use Rattle.zic_compare.specs.Verifying.{AreExtras}
use Rattle.zic_compare.proofs.verifying.extra.Given as goal

-- the lines of the names so far
abbrev pub invariant-loop-i : goal.invariant-loop-i
invariant-loop-i l = AreExtras l.files (map string_bytes (take l.i l.names)) l.lines.items
