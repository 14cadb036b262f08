use Rattle.std.proofs.Common.{◌≡◌, ◌-◌, ◌*◌, ◌≤◌, ◌++◌, map, length}
use Rattle.zic_tzif.specs.Block.{pieces, type_in}
use Rattle.zic_tzif.proofs.type_record.local_types.Given as goal

abbrev pub invariant-loop : goal.invariant-loop
invariant-loop l = record {
  enough : (l.count - l.counter) * 6 ≤ length l.rest;
  left : l.types.items ++ map type_in (pieces 6 (l.count - l.counter) l.rest) ≡ map type_in (pieces 6 l.count l.records);
}
