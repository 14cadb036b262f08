use Rattle.std.proofs.Common.{◌≡◌, ◌++◌, take}
use Rattle.std.specs.List.{flat_map}
use Rattle.zic_tzif.specs.Writing.{time_octets}
use Rattle.zic_tzif.proofs.writer.put_times.Given as goal

abbrev pub invariant-loop-change : goal.invariant-loop-change
invariant-loop-change l = l.out.items ≡ l.fn.out.items ++ flat_map time_octets (take l.change-index l.changes)
