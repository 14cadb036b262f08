use Rattle.std.proofs.Common.{◌≡◌, take, string_bytes}
use Rattle.zic_bulk.specs.Linking.{way_up}
use Rattle.zic_bulk.proofs.build_linked_command.way_up.Given as goal

abbrev pub invariant-loop-byte : goal.invariant-loop-byte
invariant-loop-byte l = string_bytes l.way ≡ way_up (take l.byte-index l.name)
