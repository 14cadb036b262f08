use Rattle.std.proofs.Common.{to_z-of_z, w64, FitsSigned, arith, rules}
use Rattle.std.proofs.lemmas.Int.{ints, clamps}
use Rattle.zic_posix.specs.Instants.{Includes}
use Rattle.zic_tzif.specs.Answer.{answered}
use Rattle.zic_compare.proofs.difference.span.Goals as goal

pub returns-clause-last : goal.returns-clause-last
returns-clause-last c =
    let fits : FitsSigned w64 c.args.at = c.ranges.at in
    let at = to_z-of_z fits in
    let one_fits : FitsSigned w64 c.span-one.result.instants.last = search rules in
    let other_fits : FitsSigned w64 c.span-other.result.instants.last = search rules in
    let min_fits : FitsSigned w64 c.min.result = search rules in
    let l = to_z-of_z one_fits in
    let m = to_z-of_z other_fits in
    let n = to_z-of_z min_fits in
    let one = c.span-one.ensures.requested.to in
    let other = c.span-other.ensures.requested.to in
    let value = c.min.ensures.value in
    omega (arith, ints, clamps, value, one, other, at, l, m, n)

pub returns-clause-throughout : goal.returns-clause-throughout
returns-clause-throughout c = λ t inside.
    let fits : FitsSigned w64 c.args.at = c.ranges.at in
    let at = to_z-of_z fits in
    let one_fits : FitsSigned w64 c.span-one.result.instants.last = search rules in
    let other_fits : FitsSigned w64 c.span-other.result.instants.last = search rules in
    let min_fits : FitsSigned w64 c.min.result = search rules in
    let l = to_z-of_z one_fits in
    let m = to_z-of_z other_fits in
    let n = to_z-of_z min_fits in
    let from = inside.from in
    let to = inside.to in
    let self_bound = c.min.ensures.self_bound in
    let other_bound = c.min.ensures.other_bound in
    let one : Includes c.span-one.result.instants t = record {
      from = let low = c.span-one.ensures.requested.from in omega (arith, ints, low, from, at);
      to = omega (arith, ints, to, self_bound, other_bound, l, m, n);
    } in
    let other : Includes c.span-other.result.instants t = record {
      from = let low = c.span-other.ensures.requested.from in omega (arith, ints, low, from, at);
      to = omega (arith, ints, to, self_bound, other_bound, l, m, n);
    } in
    record {
      of_old = (answered c.span-one.result.answer, c.span-one.ensures.answers t one, c.seen.ensures);
      of_new = (answered c.span-other.result.answer, c.span-other.ensures.answers t other, c.seen-2.ensures);
    }
