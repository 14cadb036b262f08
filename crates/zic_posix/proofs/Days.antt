-- The days of edges: each lies in its year, or is the 1 January after it, and comes later in a later year.
use Rattle.std.proofs.Common.{◌≡◌, ℕ, ◌+◌, ◌-◌, ◌<◌, ◌≤◌, true, false, inl, refl, arith, ℤ, pos, ◌+ℤ◌, ◌-ℤ◌, ◌<ℤ◌, ◌≤ℤ◌}
use Rattle.std.specs.Prelude.{◌==◌, nat_le, if◌then◌else◌}
use Rattle.std.proofs.lemmas.Bool.Decides.{nat_tests}
use Rattle.std.proofs.lemmas.Int.{ints}
use Rattle.zic_calendar.specs.declared.day_form.On.TheVariants.{Last, After}
use Rattle.zic_calendar.specs.Calendar.{is_leap_year, days_in_month, days_in_year, days_of_months, day_number, IsInMonth, IsSupportedYear}
use Rattle.zic_calendar.specs.DayForm.{form_day, week_start, IsNearSupportedDay}
use Rattle.zic_calendar.proofs.YearLemmas.{year_start-next, year_start-later}
use Rattle.zic_calendar.proofs.DateLemmas.{day_number-rises, day_number-period, day_number-next_year, days_of_months-zero, first_has, last_has, supported_day}
use Rattle.zic_calendar.proofs.WeekdayLemmas.{first_bounds, last_bounds}
use Rattle.zic_calendar.proofs.FormLemmas.{form_day-period, month_length_bounds}
use Rattle.zic_posix.specs.declared.footer.DayRule.{DayRule}
use Rattle.zic_posix.specs.declared.footer.DayRule.TheVariants.{J, N, M}
use Rattle.zic_posix.specs.Grammar.{IsDay}
use Rattle.zic_posix.specs.Meaning.{week_form, day_in}

-- ---- weeks

not_last : (week : ℕ) → (week == 5) ≡ false → week ≤ 5 → week ≤ 4
not_last week e h = grind (arith, nat_tests)

last_in_month : (y : ℤ) (m w : ℕ) → IsInMonth y m (form_day y m (Last w))
unfolding form_day
last_in_month y m w =
    omega (arith, ints, last_bounds w (day_number y m (days_in_month y m)), month_length_bounds (is_leap_year y) m)

week_in_month : (y : ℤ) (m week w : ℕ) → 1 ≤ week → week ≤ 4 → IsInMonth y m (form_day y m (After w (week_start week)))
unfolding form_day
week_in_month y m week w low high =
    omega (arith, ints, first_bounds w (day_number y m (week_start week)), month_length_bounds (is_leap_year y) m)

-- a weekday of a week lies in its month
weekday_in_month : (y : ℤ) (m week w : ℕ) → 1 ≤ week → week ≤ 5 → IsInMonth y m (form_day y m (week_form week w))
weekday_in_month y m week w low high =
    elim (week == 5) as (λ b. (week == 5) ≡ b → IsInMonth y m (form_day y m (if b then Last w else After w (week_start week)))) [
      | true ↦ λ e. last_in_month y m w
      | false ↦ λ e. week_in_month y m week w low (not_last week e high)
    ] refl

-- ---- years

-- January and February are what a year has but 306 days
two_months : (y : ℤ) → days_of_months y 2 + 306 ≡ days_in_year y
unfolding days_of_months
two_months y = grind arith

-- from 1 January on
from_january : (y : ℤ) (m d : ℕ) → 1 ≤ m → m ≤ 12 → 1 ≤ d → day_number y 1 1 ≤ℤ day_number y m d
from_january y m d low high first = omega (arith, ints, days_of_months-zero y)

-- by the day of `Jn`
by_day : (y : ℤ) (n : ℕ) (P : ℤ → Type 0) → (n ≤ 59 → P (day_number y 1 n)) → (59 < n → P (day_number y 3 (n - 59))) → P (day_in y (J n))
by_day y n P few many =
    elim (nat_le n 59) as (λ b. nat_le n 59 ≡ b → P (if b then day_number y 1 n else day_number y 3 (n - 59))) [
      | true ↦ λ e. few (grind (arith, nat_tests))
      | false ↦ λ e. many (grind (arith, nat_tests))
    ] refl

-- a day isn't before its year
pub day_in-from : (y : ℤ) (d : DayRule) → IsDay d → day_number y 1 1 ≤ℤ day_in y d
day_in-from y (J n) h = by_day y n (λ x. day_number y 1 1 ≤ℤ x) (λ few. from_january y 1 n (omega arith) (omega arith) h.0) (λ many. from_january y 3 (n - 59) (omega arith) (omega arith) (omega arith))
day_in-from y (N n) h = from_january y 1 (n + 1) (omega arith) (omega arith) (omega arith)
day_in-from y (M m week w) h = omega (arith, ints, weekday_in_month y m week w h.2 h.3, from_january y m 1 h.0 h.1 (omega arith))

-- `Jn` from 60 on counts from 1 March, and before it, like `n`, from 1 January
pub before_march : (y : ℤ) (n : ℕ) → n < 60 → day_in y (J n) ≡ day_number y 1 1 +ℤ pos n -ℤ pos 1
before_march y n few = by_day y n (λ x. x ≡ day_number y 1 1 +ℤ pos n -ℤ pos 1) (λ _. omega (arith, ints)) (λ many. absurd (omega arith))

pub from_march : (y : ℤ) (n : ℕ) → 60 ≤ n → day_in y (J n) ≡ day_number y 3 1 +ℤ pos n -ℤ pos 60
from_march y n many = by_day y n (λ x. x ≡ day_number y 3 1 +ℤ pos n -ℤ pos 60) (λ few. absurd (omega arith)) (λ _. omega (arith, ints))

pub from_zero : (y : ℤ) (n : ℕ) → day_in y (N n) ≡ day_number y 1 1 +ℤ pos n
from_zero y n = omega (arith, ints)

to_january : (y next : ℤ) → next ≡ y +ℤ pos 1 → day_number next 1 1 ≡ day_number y 1 1 +ℤ pos (days_in_year y)
to_january y next e = omega (arith, ints, year_start-next y next e, days_of_months-zero y, days_of_months-zero next)

long_year : (y : ℤ) → 365 ≤ days_in_year y
long_year y = grind arith

short_year : (y : ℤ) → days_in_year y ≤ 366
short_year y = grind arith

pub year_days : (y next : ℤ) → next ≡ y +ℤ pos 1 → (day_number y 1 1 +ℤ pos 365) ≤ℤ day_number next 1 1
year_days y next e = omega (arith, ints, to_january y next e, long_year y)

-- nor after the 1 January after it
pub day_in-to : (y next : ℤ) (d : DayRule) → next ≡ y +ℤ pos 1 → IsDay d → day_in y d ≤ℤ day_number next 1 1
day_in-to y next (J n) e h =
    by_day y n (λ x. x ≤ℤ day_number next 1 1)
    (λ few. omega (arith, ints, to_january y next e, long_year y))
    (λ many. omega (arith, ints, to_january y next e, two_months y, days_of_months-zero y))
day_in-to y next (N n) e h = omega (arith, ints, to_january y next e, long_year y)
day_in-to y next (M m week w) e h =
    let rises = day_number-rises y m (days_in_month y m) next 1 1 (last_has y m h.0 h.1) (first_has next 1 (omega arith) (omega arith)) (inl (omega (arith, ints))) in
    omega (arith, ints, weekday_in_month y m week w h.2 h.3)

few_rise : (a b : ℤ) (m d : ℕ) → a <ℤ b → days_of_months a (m - 1) ≤ days_of_months b (m - 1) + 300 → day_number a m d <ℤ day_number b m d
few_rise a b m d lt near = omega (arith, ints, year_start-later a b lt, long_year a)

-- and comes later in a later year
pub day_in-rises : (a b : ℤ) (d : DayRule) → IsDay d → a <ℤ b → day_in a d <ℤ day_in b d
day_in-rises a b (J n) h lt =
    elim (nat_le n 59) as (λ t. (if t then day_number a 1 n else day_number a 3 (n - 59)) <ℤ (if t then day_number b 1 n else day_number b 3 (n - 59))) [
      | true ↦ few_rise a b 1 n lt (omega (arith, days_of_months-zero a))
      | false ↦ few_rise a b 3 (n - 59) lt (omega (arith, two_months a, two_months b, long_year b, short_year a))
    ]
day_in-rises a b (N n) h lt = few_rise a b 1 (n + 1) lt (omega (arith, days_of_months-zero a))
day_in-rises a b (M m week w) h lt =
    let rises = day_number-rises a m (days_in_month a m) b m 1 (last_has a m h.0 h.1) (first_has b m h.0 h.1) (inl lt) in
    omega (arith, ints, weekday_in_month a m week w h.2 h.3, weekday_in_month b m week w h.2 h.3)

-- 400 years later it is the day 146,097 days later
pub day_in-period : (y later : ℤ) (d : DayRule) → later ≡ y +ℤ pos 400 → day_in later d ≡ day_in y d +ℤ pos 146_097
day_in-period y later (J n) e =
    elim (nat_le n 59) as (λ t. (if t then day_number later 1 n else day_number later 3 (n - 59)) ≡ (if t then day_number y 1 n else day_number y 3 (n - 59)) +ℤ pos 146_097) [
      | true ↦ day_number-period y later 1 n e
      | false ↦ day_number-period y later 3 (n - 59) e
    ]
day_in-period y later (N n) e = day_number-period y later 1 (n + 1) e
day_in-period y later (M m week w) e = form_day-period y later m (week_form week w) e

-- in the supported years it is near the supported days
pub day_in-near : (y : ℤ) (d : DayRule) → IsSupportedYear y → IsDay d → IsNearSupportedDay (day_in y d)
day_in-near y d year h =
    let first = supported_day y 1 1 (first_has y 1 (omega arith) (omega arith)) year in
    let last = supported_day y 12 31 (last_has y 12 (omega arith) (omega arith)) year in
    omega (arith, ints, day_in-from y d h, day_in-to y (y +ℤ pos 1) d refl h, day_number-next_year y (y +ℤ pos 1) refl)
