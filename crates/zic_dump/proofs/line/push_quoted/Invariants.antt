use Rattle.std.proofs.Common.{◌≡◌, ◌∷◌, ◌++◌, take}
use Rattle.std.specs.List.{flat_map}
use Rattle.zic_dump.specs.Text.{escaped}
use Rattle.zic_dump.proofs.line.push_quoted.Given as goal

-- the double quote and the bytes so far
abbrev pub invariant-loop-byte : goal.invariant-loop-byte
invariant-loop-byte l = l.text.items ≡ l.fn.text.items ++ 34 ∷ flat_map escaped (take l.byte-index l.bytes)
