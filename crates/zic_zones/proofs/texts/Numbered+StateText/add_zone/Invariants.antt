use Rattle.std.proofs.Common.{◌≡◌, length}
use Rattle.zic_zones.specs.code.Numbered.{Keeps}
use Rattle.zic_zones.specs.code.Texts.{AreNumbersOf}
use Rattle.zic_zones.proofs.texts.Numbered+StateText.add_zone.Given as goal

abbrev pub invariant-loop-number : goal.invariant-loop-number
invariant-loop-number l = record {
  long : length l.numbers.items ≡ l.number;
  stays : Keeps l.fn.self l.self;
  are : AreNumbersOf l.zone l.self l.numbers.items;
}
