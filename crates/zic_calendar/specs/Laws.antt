-- Laws of the calendar, for every whole year: each is the contract of a function of the module `laws`.
use Rattle.std.specs.Prelude.{◌≡◌, ◌≢◌, ◌↔◌, ℕ, ◌+◌, ◌-◌, ◌*◌, ◌%◌, ◌≤◌, true, ℤ, pos, neg_ℤ, ◌+ℤ◌, ◌-ℤ◌, ◌<ℤ◌, ◌≤ℤ◌}
use Rattle.jiff_core.specs.Calendar.{days_from_civil, weekday_number, is_leap_year as kit_is_leap_year, days_in_month as kit_days_in_month, days_in_year as kit_days_in_year}
use Rattle.zic_calendar.specs.declared.day_form.On.{On}
use Rattle.zic_calendar.specs.declared.day_form.On.TheVariants.{Last, After, Before}
use Rattle.zic_calendar.specs.declared.civil_time.Civil.{Civil}
use Rattle.zic_calendar.specs.Civil.{IsOnDay, IsAtSecond}
use Rattle.zic_calendar.specs.Calendar.{month_length, is_leap_year, days_in_month, days_in_year, counted_day, day_number, IsDate, IsEarlier, HasDate}
use Rattle.zic_calendar.specs.Weekday.{IsWeekday, weekday_of, IsFirstOnOrAfter, IsLastOnOrBefore, first_on_or_after, last_on_or_before}
use Rattle.zic_calendar.specs.DayForm.{last_meant, FormFits, IsDayOf, form_day, IsNearMonth, week_of, week_start, days_into_week, weekday_before}

-- 1970-01-01 is day 0, a year begins where the one before ends, and so does a month
pub record FollowOneAnother : Type 0 where
  pub epoch : day_number (pos 1970) 1 1 ≡ pos 0
  pub years : (y : ℤ) → day_number (y +ℤ pos 1) 1 1 ≡ day_number y 1 1 +ℤ pos (days_in_year y)
  pub months : (y : ℤ) (m : ℕ) → 1 ≤ m
      → day_number y (m + 1) 1 ≡ day_number y m 1 +ℤ pos (days_in_month y m)

-- 400 years are 146,097 days, a whole number of weeks, for dates and for day forms
pub record RepeatEvery400Years : Type 0 where
  pub dates : (y : ℤ) (m d : ℕ) → day_number (y +ℤ pos 400) m d ≡ day_number y m d +ℤ pos 146_097
  pub forms : (y : ℤ) (m : ℕ) (f : On) → form_day (y +ℤ pos 400) m f ≡ form_day y m f +ℤ pos 146_097
  pub fits : (y : ℤ) (m : ℕ) (f : On) → FormFits (y +ℤ pos 400) m f ↔ FormFits y m f
  pub weeks : 146_097 ≡ 7 * 20_871

-- weekdays come round every seven days
abbrev pub RepeatEveryWeek : Type 0
RepeatEveryWeek = (n : ℤ) → weekday_of (n +ℤ pos 7) ≡ weekday_of n

-- day numbers rise strictly with the date
abbrev pub RiseWithDates : Type 0
RiseWithDates =
    (y : ℤ) (m d : ℕ) (later_y : ℤ) (later_m later_d : ℕ) → IsDate y m d → IsDate later_y later_m later_d
    → IsEarlier y m d later_y later_m later_d → day_number y m d <ℤ day_number later_y later_m later_d

-- each day number is that of exactly one date
pub record NameOneDate : Type 0 where
  pub some : (n : ℤ) → HasDate n
  pub only : (y : ℤ) (m d : ℕ) (y₂ : ℤ) (m₂ d₂ : ℕ) → IsDate y m d → IsDate y₂ m₂ d₂
      → day_number y m d ≡ day_number y₂ m₂ d₂ → (y ≡ y₂) × (m ≡ m₂) × (d ≡ d₂)

-- one civil time at most is that second of that day
abbrev pub NameOneCivil : Type 0
NameOneCivil =
    (day : ℤ) (second : ℕ) (a b : Civil) → IsOnDay day a → IsAtSecond second a
    → IsOnDay day b → IsAtSecond second b
    → (a.year ≡ b.year) × (a.month ≡ b.month) × (a.day ≡ b.day)
    × (a.hour ≡ b.hour) × (a.minute ≡ b.minute) × (a.second ≡ b.second)

-- a form that fits names exactly one day, the computed one
abbrev pub NameOneDay : Type 0
NameOneDay =
    (y : ℤ) (m : ℕ) (f : On) → FormFits y m f → (x : ℤ) → IsDayOf y m f x ↔ (x ≡ form_day y m f)

-- exactly one day is the first such weekday on or after a day, and one the last on or before it
pub record NameOneWeekday : Type 0 where
  pub first : (w : ℕ) (day : ℤ) → IsWeekday w → (x : ℤ)
      → IsFirstOnOrAfter w day x ↔ (x ≡ first_on_or_after w day)
  pub last : (w : ℕ) (day : ℤ) → IsWeekday w → (x : ℤ)
      → IsLastOnOrBefore w day x ↔ (x ≡ last_on_or_before w day)

-- a form that fits names a day of the month, or one at most six days outside it
abbrev pub StayNearMonth : Type 0
StayNearMonth = (y : ℤ) (m : ℕ) (f : On) → FormFits y m f → IsNearMonth y m f (form_day y m f)

-- the first X on or after day q lies s days after the first x on or after its week's start; x is the weekday s days before X
abbrev pub CountFromWeekStart : Type 0
CountFromWeekStart =
    (y : ℤ) (m w : ℕ) (q : ℤ) → IsWeekday w
    → let s = days_into_week q in
    let start = day_number y m (week_start (week_of q)) in
    first_on_or_after w (counted_day y m q) ≡ first_on_or_after (weekday_before w s) start +ℤ s

-- which forms of a last weekday are one another
pub record EndMonth : Type 0 where
  pub last_week : (y : ℤ) (m w : ℕ) → IsWeekday w → m ≢ 2
      → form_day y m (After w (month_length true m - 6)) ≡ form_day y m (Last w)
  pub before : (y : ℤ) (m w d : ℕ) → IsWeekday w
      → form_day y m (Before w d) ≡ first_on_or_after w (counted_day y m (pos (last_meant y m d) -ℤ pos 6))
  pub before_last : (y : ℤ) (m w d : ℕ) → last_meant y m d ≡ days_in_month y m
      → form_day y m (Before w d) ≡ form_day y m (Last w)
  pub february : (y : ℤ) (w : ℕ) → form_day y 2 (Before w 29) ≡ form_day y 2 (Last w)

-- the calendar is that of the library for dates, whose count begins with the year -10000
pub record AgreeWithLibrary : Type 0 where
  pub leap_years : (y : ℤ) → is_leap_year y ≡ kit_is_leap_year y
  pub years : (y : ℤ) → days_in_year y ≡ kit_days_in_year y
  pub months : (y : ℤ) (m : ℕ) → days_in_month y m ≡ kit_days_in_month y m
  pub days : (y : ℤ) (m d : ℕ) → neg_ℤ (pos 10_000) ≤ℤ y → 1 ≤ d
      → day_number y m d ≡ days_from_civil y m d
  pub weekdays : (n : ℤ) → weekday_of n ≡ (weekday_number n + 1) % 7
