use Rattle.std.proofs.Common.{ℤ, subst, to_z-of_z, rules}
use Rattle.zic_posix.specs.Instants.{Includes}
use Rattle.zic_zones.proofs.Slots.{right_by_change, right_throughout}
use Rattle.zic_zones.proofs.table.slot_from.Goals as goal

pub returns-then-last-before-clause-right : goal.returns-then-last-before-clause-right
returns-then-last-before-clause-right c =
    let before = c.known_from-before in
    let f = to_z-of_z c.ranges.start in
    let requested = subst (λ (t : ℤ). Includes before.result.instants t) f before.ensures.requested in
    right_throughout c.args.zone.now c.args.numbers.now c.args.start before.result before.ensures.known requested (search rules)

pub returns-then-last-after-clause-right : goal.returns-then-last-after-clause-right
returns-then-last-after-clause-right c =
    let before = c.known_from-before in
    let after = c.known_at-after in
    let f = to_z-of_z c.ranges.start in
    let requested = subst (λ (t : ℤ). Includes before.result.instants t) f before.ensures.requested in
    right_by_change c.args.zone.now c.args.numbers.now c.args.start before.result after.result c.seconds_from.result before.ensures.known after.ensures.known requested (search rules) (search rules) (search rules)
