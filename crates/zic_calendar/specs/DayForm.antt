-- Day forms: which day of a month a Rule line or an UNTIL names.
use Rattle.std.specs.Prelude.{◌≡◌, ℕ, ◌-◌, ◌*◌, true, false, ◌&&◌, ◌==◌, if◌then◌else◌, ℤ, pos, neg_ℤ, ◌+ℤ◌, ◌-ℤ◌, unsigned_abs}
use Rattle.std.specs.Int.{IsInRange, int_div_euclid, int_rem_euclid, int_max, int_min}
use Rattle.jiff_core.specs.Calendar.{IsBetween}
use Rattle.zic_calendar.specs.declared.day_form.On.{On}
use Rattle.zic_calendar.specs.declared.day_form.On.TheVariants.{Day, Last, After, Before}
use Rattle.zic_calendar.specs.Calendar.{month_length, days_in_month, day_number, IsInMonth}
use Rattle.zic_calendar.specs.Weekday.{IsWeekday, weekday_of, IsGreatest, IsFirstOnOrAfter, IsLastOnOrBefore, first_on_or_after, last_on_or_before}

-- the day that `<=` counts back from: 29 in February means the last of the month (own choice)
abbrev pub last_meant : ℤ → ℕ → ℕ → ℕ
last_meant y m d = if (m == 2) && (d == 29) then days_in_month y m else d

-- a day of the month, for `After` one that it has in each year and for `Before` one of a leap year (zic(8), own choice)
abbrev pub FormFits : ℤ → ℕ → On → Type 0
FormFits y m (Day d) = IsInRange 1 (days_in_month y m) d
FormFits y m (Last w) = IsWeekday w
FormFits y m (After w d) = IsWeekday w × IsInRange 1 (month_length false m) d
FormFits y m (Before w d) = IsWeekday w × IsInRange 1 (month_length true m) d

-- the day, the greatest such weekday of the month, the least not before a day, or the greatest not after it (zic(8))
abbrev pub IsDayOf : ℤ → ℕ → On → ℤ → Type 0
IsDayOf y m (Day d) = λ x. x ≡ day_number y m d
IsDayOf y m (Last w) = IsGreatest (λ z. IsInMonth y m z × (weekday_of z ≡ w))
IsDayOf y m (After w d) = IsFirstOnOrAfter w (day_number y m d)
IsDayOf y m (Before w d) = IsLastOnOrBefore w (day_number y m (last_meant y m d))

-- the only such day of `IsDayOf`, computed (arithmetic)
unfoldable pub form_day : ℤ → ℕ → On → ℤ
form_day y m (Day d) = day_number y m d
form_day y m (Last w) = last_on_or_before w (day_number y m (days_in_month y m))
form_day y m (After w d) = first_on_or_after w (day_number y m d)
form_day y m (Before w d) = last_on_or_before w (day_number y m (last_meant y m d))

-- the day lies in the month, or at most six days after it for `After`, and before it for `Before` (zic(8))
abbrev pub IsNearMonth : ℤ → ℕ → On → ℤ → Type 0
IsNearMonth y m (Day _) x = IsInMonth y m x
IsNearMonth y m (Last _) x = IsInMonth y m x
IsNearMonth y m (After _ _) x =
    IsBetween (day_number y m 1) (day_number y m (days_in_month y m) +ℤ pos 6) x
IsNearMonth y m (Before _ _) x =
    IsBetween (day_number y m 1 -ℤ pos 6) (day_number y m (days_in_month y m)) x

-- the day lies at most six days outside the supported days (own choice)
abbrev pub IsNearSupportedDay : ℤ → Type 0
IsNearSupportedDay day = IsBetween (neg_ℤ (pos 719_168)) (pos 2_932_902) day

-- the week of day q of a month: days 1 to 7 are week 1, and it is held within 1 to 4 (POSIX TZ)
abbrev pub week_of : ℤ → ℕ
week_of q =
    unsigned_abs (int_max (pos 1) (int_min (pos 4) (int_div_euclid (q -ℤ pos 1) (pos 7) +ℤ pos 1)))

-- the first day of a week of a month (POSIX TZ)
abbrev pub week_start : ℕ → ℕ
week_start week = 7 * week - 6

-- how many days q lies after the start of its week, and below 0 before it (own choice)
abbrev pub days_into_week : ℤ → ℤ
days_into_week q = q -ℤ pos (week_start (week_of q))

-- the weekday this number of days before (calendar)
abbrev pub weekday_before : ℕ → ℤ → ℕ
weekday_before w days = unsigned_abs (int_rem_euclid (pos w -ℤ days) (pos 7))
