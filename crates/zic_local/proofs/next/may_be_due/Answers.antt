use Rattle.std.proofs.Common.{◌≡◌, FitsSigned, to_z-of_z, w64, arith, rules}
use Rattle.std.proofs.lemmas.Int.{ints}
use Rattle.zic_local.specs.Due.{local_time_on}
use Rattle.zic_local.proofs.next.may_be_due.Goals as goal

pub returns-then-local-le-LAST_LOCAL-clause-last :
    goal.returns-then-local-le-LAST_LOCAL-clause-last
returns-then-local-le-LAST_LOCAL-clause-last c =
    let local = c.local_time_on-local.result in
    let fits : FitsSigned w64 local = search rules in
    let local_is = to_z-of_z fits in
    let is : local ≡ local_time_on c.args.day c.args.time = simp (to_z-of_z, c.ranges.day) at c.local_time_on-local.ensures in
    let bound_is = to_z-of_z c.ranges.bound in
    let low = c.requires.low in
    let test = c.if-local-le-LAST_LOCAL.true in (
      λ due. (omega (arith, ints, local_is, is, test), grind (arith, ints, local_is, is, bound_is, low, due)),
      λ both. let near = both.1 in grind (arith, ints, local_is, is, bound_is, low, near),
    )
