use Rattle.zic_source.specs.code.Lines.{source_lines}
use Rattle.zic_source.proofs.faults.OfLinks.{AreFound}
use Rattle.zic_source.proofs.whole.link_zones.Given as goal

abbrev pub invariant-loop-link : goal.invariant-loop-link
invariant-loop-link l = AreFound (source_lines l.lines) l.link l.zones.items l.fault
