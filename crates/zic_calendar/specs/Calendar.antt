-- The proleptic Gregorian calendar for every whole year: the year before 1 is 0, and the year before that is -1.
use Rattle.std.specs.Prelude.{◌≡◌, ℕ, zero, suc, ◌+◌, ◌-◌, ◌%◌, ◌<◌, Bool, not, ◌&&◌, ◌||◌, ◌==◌, if◌then◌else◌, ◌⊎◌, ℤ, pos, negsuc, neg_ℤ, ◌+ℤ◌, ◌-ℤ◌, ◌<ℤ◌, ◌≤ℤ◌, unsigned_abs}
use Rattle.std.specs.Int.{IsInRange}
use Rattle.jiff_core.specs.Calendar.{IsBetween}

-- k divides the year (arithmetic)
abbrev pub divides : ℕ → ℤ → Bool
divides k y = unsigned_abs y % k == 0

-- every fourth year is a leap year, but of the centuries only every fourth (Gregorian calendar)
abbrev pub is_leap_year : ℤ → Bool
is_leap_year y = divides 4 y && (not (divides 100 y) || divides 400 y)

-- thirty days have September, April, June and November; February has 28, and 29 in a leap year (Gregorian calendar)
abbrev pub month_length : Bool → ℕ → ℕ
month_length is_leap m =
    if m == 2 then (if is_leap then 29 else 28)
    else (if (m == 4) || (m == 6) || (m == 9) || (m == 11) then 30 else 31)

-- the days of a month (Gregorian calendar)
abbrev pub days_in_month : ℤ → ℕ → ℕ
days_in_month y m = month_length (is_leap_year y) m

-- the days of a year (Gregorian calendar)
abbrev pub days_in_year : ℤ → ℕ
days_in_year y = if is_leap_year y then 366 else 365

-- the calendar has this date (Gregorian calendar)
abbrev pub IsDate : ℤ → ℕ → ℕ → Type 0
IsDate y m d = IsInRange 1 12 m × IsInRange 1 (days_in_month y m) d

-- the days of the n years from the year y on (sum)
unfoldable pub days_of_years : ℤ → ℕ → ℕ
days_of_years y zero = 0
days_of_years y (suc n) = days_of_years y n + days_in_year (y +ℤ pos n)

-- the days of the first n months of the year (sum)
unfoldable pub days_of_months : ℤ → ℕ → ℕ
days_of_months y zero = 0
days_of_months y (suc n) = days_of_months y n + days_in_month y (suc n)

-- the days from 1 January 1970 to 1 January this number of years later, or earlier and then below 0 (sum)
unfoldable pub days_from_1970 : ℤ → ℤ
days_from_1970 (pos n) = pos (days_of_years (pos 1970) n)
days_from_1970 (negsuc n) = neg_ℤ (pos (days_of_years (pos 1970 +ℤ negsuc n) (suc n)))

-- the day number of 1 January (1970-01-01 is day 0, POSIX)
abbrev pub year_start : ℤ → ℤ
year_start y = days_from_1970 (y -ℤ pos 1970)

-- the day number of the first of the month, which follows the months before it (Gregorian calendar)
abbrev pub month_start : ℤ → ℕ → ℤ
month_start y m = year_start y +ℤ pos (days_of_months y (m - 1))

-- the day number of day q of the month, counted from its first as day 1, also outside the month (own choice)
abbrev pub counted_day : ℤ → ℕ → ℤ → ℤ
counted_day y m q = month_start y m +ℤ q -ℤ pos 1

-- the day number of a date (Gregorian calendar)
abbrev pub day_number : ℤ → ℕ → ℕ → ℤ
day_number y m d = counted_day y m (pos d)

-- the day lies in the month (Gregorian calendar)
abbrev pub IsInMonth : ℤ → ℕ → ℤ → Type 0
IsInMonth y m x = (day_number y m 1 ≤ℤ x) × (x ≤ℤ day_number y m (days_in_month y m))

-- the first date comes before the second, by year, then month, then day (Gregorian calendar)
abbrev pub IsEarlier : ℤ → ℕ → ℕ → ℤ → ℕ → ℕ → Type 0
IsEarlier y m d later_y later_m later_d =
    (y <ℤ later_y)
    ⊎ ((y ≡ later_y) × ((m < later_m) ⊎ ((m ≡ later_m) × (d < later_d))))

-- some date of the calendar has this day number (Gregorian calendar)
pub record HasDate (n : ℤ) : Type 0 where
  pub year : ℤ
  pub month : ℕ
  pub day : ℕ
  pub is_date : IsDate year month day
  pub number : day_number year month day ≡ n

-- a year of one to four digits, after the year 0 (own choice)
abbrev pub IsSupportedYear : ℤ → Type 0
IsSupportedYear y = IsBetween (pos 1) (pos 9999) y

-- a day of such a year, from 0001-01-01 to 9999-12-31 (own choice)
abbrev pub IsSupportedDay : ℤ → Type 0
IsSupportedDay day = IsBetween (neg_ℤ (pos 719_162)) (pos 2_932_896) day
