use Rattle.std.proofs.Common.{◌≡◌, ◌∙◌, FitsSigned, w16, w64, to_z, of_z, to_z-of_z, arith}
use Rattle.jiff_core.specs.declared.civil.date.Date.{Date}
use Rattle.jiff_core.specs.Date.{epoch_day}
use Rattle.jiff_core.proofs.SignedLemmas.{signed_casts}
use Rattle.zic_calendar.specs.Calendar.{IsDate, day_number}
use Rattle.zic_calendar.proofs.DateLemmas.{day_number-kit, supported_year}
use Rattle.zic_calendar.proofs.clock.civil.Goals as goal

-- a date of the library is one of the calendar, with the same day number
is_date : (d : Date) → IsDate d.year d.month d.day
is_date d = (d.month_in, d.day_in)

number_is : (d : Date) → day_number d.year d.month d.day ≡ epoch_day d
number_is d = let year_in = d.year_in in day_number-kit d.year d.month d.day (omega (arith, signed_casts)) d.day_in.0

-- and its year may be cast
year_is : (d : Date) → to_z w64 (of_z w64 (to_z w16 (of_z w16 d.year))) ≡ d.year
year_is d = let year_in = d.year_in in omega (arith, signed_casts)

pub returns-clause-date : goal.returns-clause-date
returns-clause-date c =
    let d = c.unwrap-date.result in
    let fits : FitsSigned w64 c.args.day = c.ranges.day in
    let value = simp to_z-of_z at (rw c.unwrap-date.ensures at c.from_unix_epoch_day.ensures.value) in
    rw (year_is d) (is_date d, number_is d ∙ value)

pub returns-clause-year : goal.returns-clause-year
returns-clause-year c =
    let d = c.unwrap-date.result in
    let fits : FitsSigned w64 c.args.day = c.ranges.day in
    let value = simp to_z-of_z at (rw c.unwrap-date.ensures at c.from_unix_epoch_day.ensures.value) in
    let day_in = c.requires.day_in in
    rw (year_is d) (supported_year d.year d.month d.day (is_date d) (rw (number_is d ∙ value) day_in))
