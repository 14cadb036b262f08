-- The day of each form, in the terms of POSIX, is the day that the form names, in every year.
use Rattle.std.proofs.Common.{◌≡◌, ◌≢◌, ℕ, zero, suc, ◌+◌, ◌-◌, ◌≤◌, ◌<◌, Bool, true, false, refl, sym, ap, ◌∙◌, arith, ℤ, pos, negsuc, ◌+ℤ◌, ◌-ℤ◌, ◌*ℤ◌, ◌<ℤ◌, ◌≤ℤ◌, unsigned_abs, neg_ℤ}
use Rattle.std.specs.Prelude.{◌==◌, ◌&&◌, nat_le, not, if◌then◌else◌}
use Rattle.std.proofs.lemmas.Bool.Decides.{nat_tests}
use Rattle.std.specs.Int.{int_div_euclid, int_rem_euclid, int_max, int_min}
use Rattle.std.proofs.lemmas.Int.{ints, clamps}
use Rattle.zic_calendar.specs.declared.day_form.On.{On}
use Rattle.zic_calendar.specs.declared.day_form.On.TheVariants.{Day, Last, After, Before}
use Rattle.zic_calendar.specs.Calendar.{month_length, is_leap_year, days_in_month, days_of_months, day_number, counted_day, year_start}
use Rattle.zic_calendar.specs.DayForm.{FormFits, form_day, last_meant, week_of, week_start, days_into_week, weekday_before}
use Rattle.zic_calendar.specs.Weekday.{IsWeekday, first_on_or_after}
use Rattle.zic_calendar.proofs.FormLemmas.{month_length_bounds, first-week, form_day-last_week, form_day-before, form_day-before_last}
use Rattle.zic_calendar.proofs.DateLemmas.{day_within_year}
use Rattle.zic_lines.specs.Month.{IsMonth}
use Rattle.zic_posix.specs.Grammar.{IsDay}
use Rattle.zic_posix.specs.declared.footer.DayRule.TheVariants.{J, M}
use Rattle.zic_posix.specs.Meaning.{day_in}
use Rattle.zic_footer.specs.code.Edges.{ShiftedDay, by_week, day_of_form}
use Rattle.zic_footer.specs.code.Turns.{IsSmall}

-- ---- plain days

-- but for February months are of one length in all years
pub same_length : (a b : Bool) (m : ℕ) → m ≢ 2 → month_length a m ≡ month_length b m
same_length a b m other = grind (arith, nat_tests)

-- so from March on the days before a month differ from year to year by those of January and February
after_february : (y z : ℤ) (n : ℕ) → 2 ≤ n → days_of_months y n + days_of_months z 2 ≡ days_of_months z n + days_of_months y 2
unfolding days_of_months
after_february y z zero h = absurd (omega arith)
after_february y z (suc zero) h = absurd (omega arith)
after_february y z (suc (suc zero)) h = omega arith
after_february y z (suc (suc (suc k))) h =
    let before = after_february y z (suc (suc k)) (omega arith) in
    let same = same_length (is_leap_year y) (is_leap_year z) (suc (suc (suc k))) (omega arith) in
    omega arith

no_fewer : (y : ℤ) (n : ℕ) → 2 ≤ n → days_of_months y 2 ≤ days_of_months y n
unfolding days_of_months
no_fewer y zero h = absurd (omega arith)
no_fewer y (suc zero) h = absurd (omega arith)
no_fewer y (suc (suc zero)) h = omega arith
no_fewer y (suc (suc (suc k))) h = let before = no_fewer y (suc (suc k)) (omega arith) in omega arith

-- January and February of a common year have 59 days, and January 31
pub common_two : days_of_months (pos 1) 2 ≡ 59
unfolding days_of_months
common_two = refl

one_month : (y : ℤ) → days_of_months y 1 ≡ 31
unfolding days_of_months
one_month y = refl

no_month : (y : ℤ) → days_of_months y 0 ≡ 0
unfolding days_of_months
no_month y = refl

-- `Jn` counts from 1 January, and from 1 March where n is 60 or more
pub before_march : (y : ℤ) (n : ℕ) → n ≤ 59 → day_in y (J n) ≡ year_start y +ℤ pos n -ℤ pos 1
before_march y n few = elim (nat_le n 59) as (λ b. nat_le n 59 ≡ b → (if b then day_number y 1 n else day_number y 3 (n - 59)) ≡ year_start y +ℤ pos n -ℤ pos 1) [
  | true ↦ λ e. omega (arith, ints, no_month y)
  | false ↦ λ e. absurd (grind (arith, nat_tests))
] refl

pub from_march : (y : ℤ) (n : ℕ) → 59 < n → day_in y (J n) ≡ year_start y +ℤ pos (days_of_months y 2) +ℤ pos n -ℤ pos 60
from_march y n many = elim (nat_le n 59) as (λ b. nat_le n 59 ≡ b → (if b then day_number y 1 n else day_number y 3 (n - 59)) ≡ year_start y +ℤ pos (days_of_months y 2) +ℤ pos n -ℤ pos 60) [
  | true ↦ λ e. absurd (grind (arith, nat_tests))
  | false ↦ λ e. omega (arith, ints)
] refl

-- after so many months a plain day is counted so in every year
day_after : (y : ℤ) (n d : ℕ) → 1 ≤ d → d ≤ 31 → (n ≡ 1 → d ≤ 28)
    → day_in y (J (days_of_months (pos 1) n + d)) ≡ year_start y +ℤ pos (days_of_months y n) +ℤ pos d -ℤ pos 1
day_after y zero d low high short =
    let before = before_march y (days_of_months (pos 1) 0 + d) (omega (arith, no_month (pos 1))) in
    omega (arith, ints, no_month (pos 1), no_month y)
day_after y (suc zero) d low high short =
    let few = short refl in
    let before = before_march y (days_of_months (pos 1) 1 + d) (omega (arith, one_month (pos 1))) in
    omega (arith, ints, one_month (pos 1), one_month y)
day_after y (suc (suc k)) d low high short =
    let later = after_february y (pos 1) (suc (suc k)) (omega arith) in
    let from = from_march y (days_of_months (pos 1) (suc (suc k)) + d) (omega (arith, common_two, no_fewer (pos 1) (suc (suc k)))) in
    omega (arith, ints, common_two)

short_february : (m d : ℕ) → d ≤ month_length false m → m - 1 ≡ 1 → d ≤ 28
short_february m d high e = grind (arith, nat_tests)

plain_day : (y : ℤ) (m d : ℕ) → 1 ≤ d → d ≤ month_length false m
    → day_in y (J (days_of_months (pos 1) (m - 1) + d)) ≡ day_number y m d
plain_day y m d low high =
    day_after y (m - 1) d low (omega (arith, (month_length_bounds false m).1)) (short_february m d high)

-- ---- weekdays

-- week 5 is the last
last_week : (y : ℤ) (m w : ℕ) → day_in y (M m 5 w) +ℤ pos 0 ≡ form_day y m (Last w)
last_week y m w = omega (arith, ints)

-- the week of a day is one of the first four
pub week_of-range : (q : ℤ) → (1 ≤ week_of q) × (week_of q ≤ 4)
week_of-range q = (grind (arith, ints), grind (arith, ints))

not_last : (week : ℕ) → week ≤ 4 → (week == 5) ≡ false
not_last week few = grind (arith, nat_tests)

-- and is counted from its first day
in_week : (y : ℤ) (m week w : ℕ) → week ≤ 4 → day_in y (M m week w) ≡ first_on_or_after w (day_number y m (week_start week))
unfolding form_day
in_week y m week w few = ap (λ (b : Bool). form_day y m (if b then Last w else After w (week_start week))) (not_last week few)

counted : (y : ℤ) (m w : ℕ) (q : ℤ) → IsWeekday w → day_in y (by_week m w q).day +ℤ (by_week m w q).shift ≡ first_on_or_after w (counted_day y m q)
counted y m w q weekday =
    let start = in_week y m (week_of q) (weekday_before w (days_into_week q)) (week_of-range q).1 in
    ap (λ (x : ℤ). x +ℤ days_into_week q) start ∙ sym (first-week y m w q weekday)

first_after : (y : ℤ) (m w d : ℕ) → form_day y m (After w d) ≡ first_on_or_after w (counted_day y m (pos d))
unfolding form_day
first_after y m w d = refl

-- ---- each form

abbrev IsRight : ℤ → ℕ → On → ShiftedDay → Type 0
IsRight y m on at = day_in y at.day +ℤ at.shift ≡ form_day y m on

-- `X>=d` is the last X of the month where d is its length less 6
after_right : (y : ℤ) (m w d : ℕ) → IsWeekday w → IsRight y m (After w d) (day_of_form m (After w d))
after_right y m w d weekday =
    elim ((d == month_length true m - 6) && not (m == 2)) as (λ b. ((d == month_length true m - 6) && not (m == 2)) ≡ b → IsRight y m (After w d) (if b then record { day = M m 5 w; shift = pos 0 } else by_week m w (pos d))) [
      | true ↦ λ e.
          let same : d ≡ month_length true m - 6 = grind (arith, nat_tests) in
          let other : m ≢ 2 = grind (arith, nat_tests) in
          last_week y m w ∙ sym (ap (λ (x : ℕ). form_day y m (After w x)) same ∙ form_day-last_week y m w weekday other)
      | false ↦ λ e. counted y m w (pos d) weekday ∙ sym (first_after y m w d)
    ] refl

pub meant_last : (y : ℤ) (m d : ℕ) → d ≡ month_length true m → last_meant y m d ≡ days_in_month y m
meant_last y m d e = grind (arith, nat_tests)

pub meant_itself : (y : ℤ) (m d : ℕ) → (d == month_length true m) ≡ false → last_meant y m d ≡ d
meant_itself y m d e = grind (arith, nat_tests)

before_right : (y : ℤ) (m w d : ℕ) → IsWeekday w → IsRight y m (Before w d) (day_of_form m (Before w d))
before_right y m w d weekday =
    elim (d == month_length true m) as (λ b. (d == month_length true m) ≡ b → IsRight y m (Before w d) (if b then record { day = M m 5 w; shift = pos 0 } else by_week m w (pos d -ℤ pos 6))) [
      | true ↦ λ e.
          let same : d ≡ month_length true m = grind (arith, nat_tests) in
          last_week y m w ∙ sym (form_day-before_last y m w d (meant_last y m d same))
      | false ↦ λ e.
          counted y m w (pos d -ℤ pos 6) weekday
          ∙ ap (λ (x : ℕ). first_on_or_after w (counted_day y m (pos x -ℤ pos 6))) (sym (meant_itself y m d e))
          ∙ sym (form_day-before y m w d weekday)
    ] refl

day_right : (y : ℤ) (m d : ℕ) → 1 ≤ d → d ≤ month_length false m → IsRight y m (Day d) (day_of_form m (Day d))
unfolding form_day
day_right y m d low high = let plain = plain_day y m d low high in omega (arith, ints)

-- a plain day that a month has in every year it has in common years
common_day : (m d : ℕ) → ((y : ℤ) → FormFits y m (Day d)) → (1 ≤ d) × (d ≤ month_length false m)
common_day m d fits = fits (pos 1)

-- So the day of a form, moved by its shift, is the day that the form names, in every year.
pub day_of_form-right : (m : ℕ) (on : On) → ((y : ℤ) → FormFits y m on) → (y : ℤ) → IsRight y m on (day_of_form m on)
day_of_form-right m (Day d) fits y = let common = common_day m d fits in day_right y m d common.0 common.1
day_of_form-right m (Last w) fits y = last_week y m w
day_of_form-right m (After w d) fits y = after_right y m w d (fits y).0
day_of_form-right m (Before w d) fits y = before_right y m w d (fits y).0

-- ---- what can be said

-- the remainder of a week is one of seven
below_seven : (z : ℤ) → unsigned_abs (int_rem_euclid z (pos 7)) ≤ 6
below_seven (pos n) = omega arith
below_seven (negsuc n) = omega arith

weekday_before-range : (w : ℕ) (days : ℤ) → weekday_before w days ≤ 6
weekday_before-range w days = below_seven (pos w -ℤ days)

by_week-is : (m w : ℕ) (q : ℤ) → IsMonth m → IsDay (by_week m w q).day
by_week-is m w q month =
    let range = week_of-range q in
    (month.0, month.1, range.0, omega (arith, range.1), weekday_before-range w (days_into_week q))

last_week-is : (m w : ℕ) → IsMonth m → IsWeekday w → IsDay (M m 5 w)
last_week-is m w month weekday = (month.0, month.1, omega arith, omega arith, weekday)

by_test : (test : Bool) (m w : ℕ) (q : ℤ) → IsMonth m → IsWeekday w
    → IsDay (if test then record { day = M m 5 w; shift = pos 0 } else by_week m w q).day
by_test true m w q month weekday = last_week-is m w month weekday
by_test false m w q month weekday = by_week-is m w q month

-- some text spells the day of a form
pub day_of_form-is : (m : ℕ) (on : On) → IsMonth m → ((y : ℤ) → FormFits y m on) → IsDay (day_of_form m on).day
day_of_form-is m (Day d) month fits =
    let within = day_within_year (pos 1) m d (month, fits (pos 1)) in
    let low = (fits (pos 1)).0 in
    (omega arith, omega arith)
day_of_form-is m (Last w) month fits = last_week-is m w month (fits (pos 1))
day_of_form-is m (After w d) month fits = by_test ((d == month_length true m - 6) && not (m == 2)) m w (pos d) month (fits (pos 1)).0
day_of_form-is m (Before w d) month fits = by_test (d == month_length true m) m w (pos d -ℤ pos 6) month (fits (pos 1)).0

-- ---- weeks of the code

-- the week in which a number lies
pub floor : (t : ℤ) → ((pos 7 *ℤ int_div_euclid t (pos 7)) ≤ℤ t) × (t <ℤ ((pos 7 *ℤ int_div_euclid t (pos 7)) +ℤ pos 7))
floor (pos n) = (omega (arith, ints), omega (arith, ints))
floor (negsuc n) = (omega (arith, ints), omega (arith, ints))

-- the weeks of days from six before a month to its 31st are few
pub few_weeks : (q : ℤ) → neg_ℤ (pos 6) ≤ℤ q → q ≤ℤ pos 31
    → (neg_ℤ (pos 1) ≤ℤ int_div_euclid (q -ℤ pos 1) (pos 7)) × (int_div_euclid (q -ℤ pos 1) (pos 7) ≤ℤ pos 4)
few_weeks q low high = let whole = floor (q -ℤ pos 1) in (omega (arith, ints), omega (arith, ints))

-- held within 1 to 4 it is the week of the day
pub held : (q x : ℤ) → x ≡ int_div_euclid (q -ℤ pos 1) (pos 7) +ℤ pos 1 → int_max (pos 1) (int_min x (pos 4)) ≡ pos (week_of q)
held q x e = grind (arith, ints, clamps)

-- and the day lies at most nine days after the week's start
pub shift_is_small : (q : ℤ) → neg_ℤ (pos 6) ≤ℤ q → q ≤ℤ pos 31 → IsSmall (days_into_week q)
shift_is_small q low high = let whole = floor (q -ℤ pos 1) in (grind (arith, ints, clamps), grind (arith, ints, clamps))
