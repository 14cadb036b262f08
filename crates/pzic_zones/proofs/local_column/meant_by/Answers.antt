use Rattle.std.proofs.Common.{rules, Some, to_z-of_z}
use Rattle.zic_local.specs.LocalTime.{IsInRange}
use Rattle.pzic_zones.proofs.local_column.meant_by.Goals as goal

pub returns-clause-instant : goal.returns-clause-instant
returns-clause-instant c =
    let inside : IsInRange c.args.local = search rules in
    (Some c.instant_by.result, (inside, simp (to_z-of_z, c.ranges.local) at c.instant_by.ensures), c.seen.ensures.instant)

pub returns-clause-status : goal.returns-clause-status
returns-clause-status c =
    let inside : IsInRange c.args.local = search rules in
    (Some c.instant_by.result, (inside, simp (to_z-of_z, c.ranges.local) at c.instant_by.ensures), c.seen.ensures.status)
