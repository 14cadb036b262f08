use Rattle.std.proofs.Common.{◌≡◌, ◌++◌, take, string_bytes}
use Rattle.zic_bulk.proofs.build_command.with_name.Given as goal

-- the path and the bytes so far
abbrev pub invariant-loop-byte : goal.invariant-loop-byte
invariant-loop-byte l = string_bytes l.path ≡ string_bytes l.fn.path ++ take l.byte-index l.name
