use Rattle.std.proofs.Common.{◌≡◌, ◌++◌, take}
use Rattle.std.specs.List.{flat_map}
use Rattle.zic_tzif.specs.Writing.{type_octets}
use Rattle.zic_tzif.proofs.writer.put_types.Given as goal

abbrev pub invariant-loop-local_type : goal.invariant-loop-local_type
invariant-loop-local_type l = l.out.items ≡ l.fn.out.items ++ flat_map type_octets (take l.local_type-index l.types)
