use Rattle.std.proofs.Common.{◌≡◌, vec_len}
use Rattle.zic_zones.specs.Slots.{AreRight}
use Rattle.zic_zones.specs.code.Known.{IsKnown}
use Rattle.zic_zones.proofs.table.slots_of.Given as goal

abbrev pub invariant-loop-place : goal.invariant-loop-place
invariant-loop-place l = record {
  long : vec_len l.slots ≡ l.place;
  right : AreRight l.zone l.numbers l.base l.slots.items;
  known : IsKnown l.zone l.numbers l.known;
}
