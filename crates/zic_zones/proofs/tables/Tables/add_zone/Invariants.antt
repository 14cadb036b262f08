use Rattle.std.proofs.Common.{◌≡◌, length}
use Rattle.zic_zones.specs.declared.slot.TheConstants.{ERAS}
use Rattle.zic_zones.specs.code.Tables.{HaveTables}
use Rattle.zic_zones.specs.code.Numbered.{Keeps}
use Rattle.zic_zones.proofs.tables.Tables.add_zone.Given as goal

abbrev pub invariant-loop-era : goal.invariant-loop-era
invariant-loop-era l = record {
  stays : Keeps l.fn.self l.self;
  long : length l.starts ≡ ERAS;
  have : HaveTables l.zone l.numbers l.self l.starts;
}
