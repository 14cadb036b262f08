use Rattle.std.proofs.Common.{take}
use Rattle.zic_zones.specs.code.Tables.{AreNumbersOfSlots}
use Rattle.zic_zones.specs.code.Numbered.{Keeps}
use Rattle.zic_zones.proofs.slot_set.Numbered+Slot.numbers_of.Given as goal

abbrev pub invariant-loop-slot : goal.invariant-loop-slot
invariant-loop-slot l = record {
  stays : Keeps l.fn.self l.self;
  are : AreNumbersOfSlots l.self l.numbers.items (take l.slot-index l.slots);
}
