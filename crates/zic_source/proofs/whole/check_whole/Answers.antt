use Rattle.zic_source.specs.code.Lines.{source_lines}
use Rattle.zic_source.proofs.faults.Earlier.{second_none}
use Rattle.zic_source.proofs.faults.Found.{whole_if_none, first_if_some}
use Rattle.zic_source.proofs.whole.check_whole.Goals as goal

pub returns-in-Some-clause-first : goal.returns-in-Some-clause-first
returns-in-Some-clause-first c = first_if_some (source_lines c.args.lines.now) c.args.names.now c.requires.names c.zones_fault-of_zones.result c.in_ok-of_links.of_links.fault _
    c.zones_fault-of_zones.ensures c.in_ok-of_links.ensures.fault c.earlier.ensures c.in-Some.fault c.in-Some.is

pub returns-in-None-clause-whole : goal.returns-in-None-clause-whole
returns-in-None-clause-whole c = whole_if_none (source_lines c.args.lines.now) c.args.names.now c.requires.names c.zones_fault-of_zones.result c.in_ok-of_links.of_links.fault _
    c.zones_fault-of_zones.ensures c.in_ok-of_links.ensures.fault c.earlier.ensures c.in-None.is

pub returns-in-None-clause-zones : goal.returns-in-None-clause-zones
returns-in-None-clause-zones c = c.in_ok-of_links.ensures.zones (second_none c.zones_fault-of_zones.result c.in_ok-of_links.of_links.fault _ c.earlier.ensures c.in-None.is)
