use Rattle.std.proofs.Common.{◌≡◌, ℤ, pos, ◌+ℤ◌, ◌-ℤ◌, ◌≤ℤ◌, FitsSigned, to_z-of_z, w64, ◌∙◌, ap, arith, rules}
use Rattle.std.specs.Int.{int_div_euclid}
use Rattle.std.proofs.lemmas.Int.{ints, clamps}
use Rattle.zic_posix.specs.declared.span.TheConstants.{MAX_INSTANT}
use Rattle.zic_local.proofs.Days.{first_none, first_walk, least_local}
use Rattle.zic_local.proofs.next.first_day.Goals as goal
use Rattle.zic_local.proofs.next.first_day.Goals.{After-div_euclid}

-- the day of the second before which a day begins
day_is : (c : After-div_euclid) → c.div_euclid.result ≡ int_div_euclid ((least_local c.args.after -ℤ pos c.args.time) +ℤ pos 86_399) (pos 86_400)
day_is c =
    let after_is = to_z-of_z c.ranges.after in
    let after_fits = c.ranges.after in
    let max_is = c.max.ensures.value in
    let from_is = c.from.ensures in
    let time_is = c.seconds.ensures.value in
    let range = c.seconds.ensures.range in
    c.div_euclid.ensures ∙ ap (λ (z : ℤ). int_div_euclid z (pos 86_400)) (omega (arith, ints, clamps, after_is, after_fits, max_is, from_is, time_is, range))

pub returns-clause-walk : goal.returns-clause-walk
returns-clause-walk c =
    let fits : FitsSigned w64 c.div_euclid.result = search rules in
    let after_fits = c.ranges.after in
    let time_is = c.seconds.ensures.value in
    let range = c.seconds.ensures.range in
    let bound : c.args.after ≤ℤ MAX_INSTANT = omega (arith, ints, after_fits) in
    rw (to_z-of_z fits) (first_walk c.args.after c.div_euclid.result c.args.time bound (omega (arith, time_is, range)) (day_is (goal.at.returns-clause-walk c).After-div_euclid))

pub returns-clause-first : goal.returns-clause-first
returns-clause-first c =
    let fits : FitsSigned w64 c.div_euclid.result = search rules in
    let after_fits = c.ranges.after in
    let time_is = c.seconds.ensures.value in
    let range = c.seconds.ensures.range in
    let bound : c.args.after ≤ℤ MAX_INSTANT = omega (arith, ints, after_fits) in
    rw (to_z-of_z fits) (first_none c.args.after c.div_euclid.result c.args.time bound (omega (arith, time_is, range)) (day_is (goal.at.returns-clause-first c).After-div_euclid))
