use Rattle.std.proofs.Common.{◌≡◌, ◌≤◌, Bool, ℤ, pos, ◌*ℤ◌, unsigned_abs, sym, ap, ◌∙◌, to_z, of_z, to_z-of_z, w64, FitsSigned, arith}
use Rattle.std.specs.Prelude.{if◌then◌else◌}
use Rattle.std.proofs.lemmas.Int.{ints}
use Rattle.zic_calendar.specs.Calendar.{day_number, is_leap_year}
use Rattle.zic_calendar.specs.DayForm.{form_day, IsNearSupportedDay}
use Rattle.zic_calendar.specs.Weekday.{weekday_of}
use Rattle.zic_posix.proofs.YearKinds.{kind_known}
use Rattle.zic_posix.proofs.years.YearStart.new.Goals as goal
use Rattle.zic_posix.proofs.years.YearStart.new.Goals.{then-is_leap_year, else-is_leap_year}

-- the seconds fit
fits_64 : (day : ℤ) → IsNearSupportedDay day → to_z w64 (of_z w64 (pos 86_400 *ℤ to_z w64 (of_z w64 day))) ≡ pos 86_400 *ℤ day
fits_64 day near = omega (arith, ints)

day_fits : (day : ℤ) → IsNearSupportedDay day → FitsSigned w64 day
day_fits day near = omega (arith, ints)

near_start : (day : ℤ) → IsNearSupportedDay day → unsigned_abs (pos 86_400 *ℤ day) ≤ 260_000_000_000
near_start day near = omega (arith, ints)

pub returns : goal.returns
unfolding form_day
returns c =
    let year = c.args.year in
    let day = c.day_of-day.result in
    let range = c.day_of-day.ensures.range in
    let first : day ≡ day_number year 1 1 = c.day_of-day.ensures.value ∙ ap (λ (y : ℤ). day_number y 1 1) (to_z-of_z c.ranges.year) in
    let leap : c.is_leap_year.result ≡ is_leap_year year = c.is_leap_year.ensures ∙ ap is_leap_year (to_z-of_z c.ranges.year) in
    let added : c.if-is_leap_year.first ≡ (if is_leap_year year then 7 else 0) = elim c.if-is_leap_year.branch [
      | then-is_leap_year w ↦ w.first-is ∙ sym (ap (λ (b : Bool). if b then 7 else 0) (sym leap ∙ w.if-is_leap_year.true))
      | else-is_leap_year w ↦ w.first-is ∙ sym (ap (λ (b : Bool). if b then 7 else 0) (sym leap ∙ w.if-is_leap_year.false))
    ] in
    let weekday : c.weekday.result ≡ weekday_of (day_number year 1 1) = c.weekday.ensures.value ∙ ap weekday_of (to_z-of_z (day_fits day range) ∙ first) in
    let known = kind_known year in
    rw (fits_64 day range) (record {
      second = ap (λ (d : ℤ). pos 86_400 *ℤ d) first;
      kind = omega (arith, added, weekday);
      known = omega (arith, added, weekday, known);
      near = near_start day range;
    })
