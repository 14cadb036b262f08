-- Dates and times of day, read again.
use Rattle.std.proofs.Common.{◌≡◌, ◌∙◌, ◌≤ℤ◌, ℕ, true, ◌&&◌, ℤ, pos, negsuc, ◌+ℤ◌, ◌*ℤ◌, ap, ap₂, arith, refl, sym, subst, Some}
use Rattle.std.proofs.lemmas.Bool.{le-leb}
use Rattle.std.proofs.lemmas.Int.{ints}
use Rattle.std.specs.Prelude.{if◌then◌else◌, int_le, unsigned_abs, None}
use Rattle.jiff_core.proofs.CalendarLemmas.{days_in_month_bounds}
use Rattle.zic_calendar.specs.declared.civil_time.Civil.{Civil}
use Rattle.zic_calendar.specs.Calendar.{days_in_month, IsSupportedDay}
use Rattle.zic_calendar.proofs.DateLemmas.{supported_year}
use Rattle.zic_base.specs.Digits.{two_digits}
use Rattle.zic_base.specs.Number.{number}
use Rattle.zic_row_text.specs.DateTime.{civil_from, civil_in, civil_second, clock_second, is_clock, is_date}
use Rattle.zic_row_text.specs.Local.{IsLocalSecond, day_at, local_time, second_at}
use Rattle.zic_row_text.specs.Row.{civil_text, four_digits}
use Rattle.zic_row_text.specs.code.Civils.{IsCivil}
use Rattle.zic_row_text.proofs.LocalTime.{local_time_is}
use Rattle.zic_row_text.proofs.ReadDigits.{four_read, two_read}

-- the numbers of a text
numbers_in : (c : Civil)
    → civil_in (civil_text c) ≡ civil_from (number 4 (four_digits (unsigned_abs c.year))) (number 2 (two_digits c.month)) (number 2 (two_digits c.day))
    (number 2 (two_digits c.hour)) (number 2 (two_digits c.minute)) (number 2 (two_digits c.second))
unfolding civil_in clock_second
numbers_in c = refl

from_year_1 : (y : ℤ) → pos 1 ≤ℤ y → int_le (pos 1) y ≡ true
from_year_1 y h = grind (arith, ints)

-- a civil time of these years has a date and a time of day
is_civil : (c : Civil) → IsCivil c → (is_date c && is_clock c) ≡ true
is_civil c is = rw (
  from_year_1 c.year is.year.0,
  le-leb 1 c.month is.month.0,
  le-leb c.month 12 is.month.1,
  le-leb 1 c.day is.day.0,
  le-leb c.day (days_in_month c.year c.month) is.day.1,
  le-leb c.hour 23 is.hour,
  le-leb c.minute 59 is.minute,
  le-leb c.second 59 is.second,
) refl

-- which is then the one that is made of numbers
civil_made : (c d : Civil) → c ≡ d → (is_date c && is_clock c) ≡ true → (if is_date c && is_clock c then Some c else None) ≡ Some d
civil_made c d same is = rw is (ap Some same)

whole_year : (y : ℤ) → pos 1 ≤ℤ y → pos (unsigned_abs y) ≡ y
whole_year (pos n) h = refl
whole_year (negsuc n) h = absurd (omega (arith, ints))

-- a civil time is read again
pub civil_read : (c : Civil) → IsCivil c → civil_in (civil_text c) ≡ Some c
civil_read c is =
    let year = four_read (unsigned_abs c.year) (omega (arith, ints, is.year.0, is.year.1)) in
    let read = rw (
      year,
      two_read c.month (omega (arith, is.month.1)),
      two_read c.day (omega (arith, is.day.1, days_in_month_bounds c.year c.month)),
      two_read c.hour (omega (arith, is.hour)),
      two_read c.minute (omega (arith, is.minute)),
      two_read c.second (omega (arith, is.second)),
    ) at (numbers_in c) in
    let made : Civil = record c { year = pos (unsigned_abs c.year) } in
    let same : made ≡ c = ap (λ (y : ℤ). record c { year = y }) (whole_year c.year is.year.0) in
    read ∙ civil_made made c same (subst (λ (d : Civil). (is_date d && is_clock d) ≡ true) (sym same) (is_civil c is))

-- its day is one of these years
day_supported : (t : ℤ) → IsLocalSecond t → IsSupportedDay (day_at t)
day_supported (pos a) is = (omega (arith, ints, is.0, is.1), omega (arith, ints, is.0, is.1))
day_supported (negsuc a) is = (omega (arith, ints, is.0, is.1), omega (arith, ints, is.0, is.1))

-- the civil time of a second of these years
pub local_civil : (t : ℤ) → IsLocalSecond t → IsCivil (local_time t)
local_civil t is =
    let c = local_time t in
    let supported = day_supported t is in
    let (on, at) = local_time_is t supported in
    record {
      year = supported_year c.year c.month c.day on.0 (subst IsSupportedDay (sym on.1) supported);
      month = on.0.0;
      day = on.0.1;
      hour = omega (arith, at.0);
      minute = omega (arith, at.1);
      second = omega (arith, at.2);
    }

day_and_second : (t : ℤ) → (pos 86_400 *ℤ day_at t) +ℤ pos (second_at t) ≡ t
day_and_second (pos a) = omega (arith, ints)
day_and_second (negsuc a) = omega (arith, ints)

-- a second is that of its civil time
pub local_time_second : (t : ℤ) → IsLocalSecond t → civil_second (local_time t) ≡ t
local_time_second t is =
    let (on, at) = local_time_is t (day_supported t is) in
    ap₂ (λ (d : ℤ) (s : ℕ). (pos 86_400 *ℤ d) +ℤ pos s) on.1 at.3 ∙ day_and_second t
