use Rattle.std.proofs.Common.{◌≡◌, ◌-◌, ◌*◌, ◌≤◌, ◌++◌, map, length}
use Rattle.zic_tzif.specs.Block.{pieces, time_in}
use Rattle.zic_tzif.proofs.transition.times.Given as goal

abbrev pub invariant-loop : goal.invariant-loop
invariant-loop l = record {
  enough : (l.count - l.counter) * 8 ≤ length l.rest;
  left : l.times.items ++ map time_in (pieces 8 (l.count - l.counter) l.rest) ≡ map time_in (pieces 8 l.count l.octets);
}
