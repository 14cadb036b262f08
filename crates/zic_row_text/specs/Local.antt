-- Local time: the civil time of a second, which counts from 1970-01-01T00:00:00 of local time. It is `zic_calendar`'s (`IsOnDay`,
-- `IsAtSecond`), computed; the law `local_time_is_civil` says so.
use Rattle.std.specs.Prelude.{ℕ, zero, suc, ◌+◌, ◌/◌, ◌%◌, ℤ, pos, neg_ℤ, ◌-ℤ◌, ◌≤ℤ◌, int_le, unsigned_abs, if◌then◌else◌}
use Rattle.std.specs.Int.{int_div_euclid, int_rem_euclid}
use Rattle.zic_calendar.specs.declared.civil_time.Civil.{Civil}
use Rattle.zic_calendar.specs.Calendar.{year_start, month_start, IsSupportedDay}
use Rattle.zic_calendar.specs.Civil.{IsOnDay, IsAtSecond}

-- how many of the first n, numbered from 1, begin on or before the day
unfoldable pub begun : (ℕ → ℤ) → ℕ → ℤ → ℕ
begun start zero day = 0
begun start (suc n) day = begun start n day + (if int_le (start (suc n)) day then 1 else 0)

-- the year of a day of the years 1 to 9999: the number of years that have begun
abbrev pub year_of : ℤ → ℕ
year_of day = begun (λ y. year_start (pos y)) 9999 day

-- the month of a day: the number of months of its year that have begun
abbrev pub month_of : ℤ → ℕ
month_of day = begun (month_start (pos (year_of day))) 12 day

-- the day of the month of a day, from 1
abbrev pub day_of_month : ℤ → ℕ
day_of_month day = unsigned_abs (day -ℤ month_start (pos (year_of day)) (month_of day)) + 1

-- the days and the seconds of a day that make up this second
abbrev pub day_at : ℤ → ℤ
day_at t = int_div_euclid t (pos 86_400)

abbrev pub second_at : ℤ → ℕ
second_at t = unsigned_abs (int_rem_euclid t (pos 86_400))

-- the civil time of a day and a second of it, in the years 1 to 9999
abbrev pub civil_of : ℤ → ℕ → Civil
civil_of day second = record {
  year = pos (year_of day);
  month = month_of day;
  day = day_of_month day;
  hour = second / 3600;
  minute = second / 60 % 60;
  second = second % 60;
}

-- the civil time of a second, in the years 1 to 9999
unfoldable pub local_time : ℤ → Civil
local_time t = civil_of (day_at t) (second_at t)

-- a second of the years 1 to 9999: 0001-01-01T00:00:00 to 9999-12-31T23:59:59
abbrev pub IsLocalSecond : ℤ → Type 0
IsLocalSecond t = (neg_ℤ (pos 62_135_596_800) ≤ℤ t) × (t ≤ℤ pos 253_402_300_799)

-- on each day of the years 1 to 9999 that is the civil time
abbrev pub IsCivilTime : Type 0
IsCivilTime = (t : ℤ) → IsSupportedDay (day_at t) → IsOnDay (day_at t) (local_time t) × IsAtSecond (second_at t) (local_time t)
