use Rattle.std.proofs.Common.{◌≡◌, ℤ, pos, ◌+ℤ◌, ◌*ℤ◌, ◌≤ℤ◌, FitsSigned, to_z, of_z, to_z-of_z, w64, refl, subst, arith, rules}
use Rattle.std.specs.Int.{int_div_euclid}
use Rattle.std.proofs.lemmas.Int.{ints}
use Rattle.zic_dump.proofs.Dates.{moved_by}
use Rattle.zic_dump.proofs.Euclid.{by_days}
use Rattle.zic_calendar.specs.Civil.{IsOnDay}
use Rattle.zic_dump.proofs.civil.civil_on.Goals as goal

-- the quotient and what it makes of the year stay in 64 bits
periods_fit : (day periods : ℤ) → FitsSigned w64 day → periods ≡ int_div_euclid (to_z w64 (of_z w64 day)) (pos 146_097) → FitsSigned w64 (pos 400 *ℤ to_z w64 (of_z w64 periods))
periods_fit day periods fits is =
    let day_is = to_z-of_z fits in
    let whole = by_days (to_z w64 (of_z w64 day)) in
    omega (arith, ints, fits, is, day_is, whole.is, whole.low, whole.high)

year_fits : (day periods year : ℤ) → FitsSigned w64 day → periods ≡ int_div_euclid (to_z w64 (of_z w64 day)) (pos 146_097) → pos 1 ≤ℤ year → year ≤ℤ pos 9999
    → to_z w64 (of_z w64 (to_z w64 (of_z w64 year) +ℤ to_z w64 (of_z w64 (pos 400 *ℤ to_z w64 (of_z w64 periods))))) ≡ year +ℤ (pos 400 *ℤ periods)
year_fits day periods year fits is low high =
    let day_is = to_z-of_z fits in
    let whole = by_days (to_z w64 (of_z w64 day)) in
    omega (arith, ints, fits, is, day_is, whole.is, whole.low, whole.high, low, high)

sum_fits : (day periods year : ℤ) → FitsSigned w64 day → periods ≡ int_div_euclid (to_z w64 (of_z w64 day)) (pos 146_097) → pos 1 ≤ℤ year → year ≤ℤ pos 9999
    → FitsSigned w64 (to_z w64 (of_z w64 year) +ℤ to_z w64 (of_z w64 (pos 400 *ℤ to_z w64 (of_z w64 periods))))
sum_fits day periods year fits is low high =
    let day_is = to_z-of_z fits in
    let whole = by_days (to_z w64 (of_z w64 day)) in
    omega (arith, ints, fits, is, day_is, whole.is, whole.low, whole.high, low, high)

pub overflow_mul-result : goal.overflow_mul-result
overflow_mul-result c = periods_fit c.args.day c.div_euclid-periods.result c.ranges.day c.div_euclid-periods.ensures

pub overflow_add-result : goal.overflow_add-result
overflow_add-result c =
    let year = c.civil-in_period.ensures.year in
    sum_fits c.args.day c.div_euclid-periods.result c.civil-in_period.result.year c.ranges.day c.div_euclid-periods.ensures year.0 year.1

pub returns-clause-date : goal.returns-clause-date
returns-clause-date c =
    let day = c.args.day in
    let periods = c.div_euclid-periods.result in
    let y = c.civil-in_period.result.year in
    let m = c.civil-in_period.result.month in
    let d = c.civil-in_period.result.day in
    let range = c.civil-in_period.ensures.year in
    let year = year_fits day periods y c.ranges.day c.div_euclid-periods.ensures range.0 range.1 in
    let day_is = to_z-of_z c.ranges.day in
    let whole = by_days (to_z w64 (of_z w64 day)) in
    let periods_is = c.div_euclid-periods.ensures in
    let rest_is = c.rem_euclid.ensures.value in
    let rest_fits : FitsSigned w64 c.rem_euclid.result = search rules in
    let in_period = subst (λ (z : ℤ). IsOnDay z c.civil-in_period.result) (to_z-of_z rest_fits) c.civil-in_period.ensures.date in
    let number = in_period.1 in
    let moved = moved_by c.calendar_repeats.ensures m d periods y (y +ℤ (pos 400 *ℤ periods)) refl in_period.0 in
    let there = moved.number in
    rw year (moved.date, omega (arith, ints, there, number, rest_is, periods_is, whole.is, day_is))
