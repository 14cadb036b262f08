use Rattle.std.proofs.Common.{◌≡◌, map, take}
use Rattle.zic_tzif.specs.code.StoredContent.{name_length}
use Rattle.zic_tzif.proofs.zone.name_lengths.Given as goal

abbrev pub invariant-loop-local_type : goal.invariant-loop-local_type
invariant-loop-local_type l = l.lengths.items ≡ map (name_length l.names) (take l.local_type-index l.types)
