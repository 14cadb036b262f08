use Rattle.std.proofs.Common.{take}
use Rattle.zic_source.specs.code.Faults.{ZoneIsRight, ZoneHas, IsFirstOf}
use Rattle.zic_source.proofs.whole.zones_fault.Given as goal

abbrev pub invariant-loop-zone : goal.invariant-loop-zone
invariant-loop-zone l = IsFirstOf (ZoneIsRight l.lines.rules.items) (ZoneHas l.lines.rules.items) (take l.zone-index l.lines.zones.items) l.first
