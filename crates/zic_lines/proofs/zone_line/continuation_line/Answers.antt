use Rattle.std.proofs.Common.{arith}
use Rattle.std.specs.Cow.{cow_slice_items}
use Rattle.zic_lines.proofs.Shapes.{three_first, few}
use Rattle.zic_lines.proofs.ZoneLines.{part_continues}
use Rattle.zic_lines.proofs.zone_line.continuation_line.Goals as goal

pub returns-clause-ok : goal.returns-clause-ok
returns-clause-ok c =
    rw (part_continues (three_first cow_slice_items c.args.fields.now (omega arith) c.stdoff-item.is c.rules-item.is c.format-item.is c.as_slice.ensures.value c.as_slice-2.ensures.value c.as_slice-3.ensures.value)
    (few cow_slice_items _ c.if-until-gt4.false))
    c.zone_part.ensures.ok

pub returns-clause-fault : goal.returns-clause-fault
returns-clause-fault c =
    rw (part_continues (three_first cow_slice_items c.args.fields.now (omega arith) c.stdoff-item.is c.rules-item.is c.format-item.is c.as_slice.ensures.value c.as_slice-2.ensures.value c.as_slice-3.ensures.value)
    (few cow_slice_items _ c.if-until-gt4.false))
    c.zone_part.ensures.fault

pub returns-clause-says : goal.returns-clause-says
returns-clause-says c =
    rw (three_first cow_slice_items c.args.fields.now (omega arith) c.stdoff-item.is c.rules-item.is c.format-item.is c.as_slice.ensures.value c.as_slice-2.ensures.value c.as_slice-3.ensures.value)
    c.zone_part.ensures.says
