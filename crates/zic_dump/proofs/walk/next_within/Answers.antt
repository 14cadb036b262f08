use Rattle.std.proofs.Common.{ℤ, FitsSigned, to_z-of_z, w64, subst, arith, rules}
use Rattle.std.proofs.lemmas.Int.{ints}
use Rattle.zic_dump.specs.NearChanges.{IsNextChange}
use Rattle.zic_dump.proofs.Found.{next_is_first}
use Rattle.zic_dump.proofs.walk.next_within.Goals as goal

pub returns-in-Some : goal.returns-in-Some
returns-in-Some c =
    let change = c.in-Some.change in
    let fits : FitsSigned w64 change = search rules in
    let change_is = to_z-of_z fits in
    let last_is = to_z-of_z c.ranges.last in
    let test = c.if-change-last.true in
    let next = subst (λ (z : ℤ). IsNextChange c.args.zone.now z change) (to_z-of_z c.ranges.first) c.in-Some.ensures in
    rw change_is (next_is_first c.args.zone.now c.args.first c.args.last change (omega (arith, ints, test, change_is, last_is)) next)
