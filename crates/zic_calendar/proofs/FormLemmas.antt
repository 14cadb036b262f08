-- Day forms: the computed day is the only one that the form names, where it may lie, and how forms go over into others.
use Rattle.std.proofs.Common.{◌≡◌, ◌≢◌, ℕ, ◌-◌, ◌≤◌, Bool, true, false, refl, sym, arith, ℤ, pos, neg_ℤ, ◌+ℤ◌, ◌-ℤ◌, ◌≤ℤ◌, ◌↔◌}
use Rattle.std.proofs.lemmas.Bool.Decides.{nat_tests}
use Rattle.std.specs.Int.{IsInRange}
use Rattle.jiff_core.proofs.SignedLemmas.{signed_arith}
use Rattle.zic_calendar.specs.declared.day_form.On.{On}
use Rattle.zic_calendar.specs.declared.day_form.On.TheVariants.{Day, Last, After, Before}
use Rattle.zic_calendar.specs.Calendar.{month_length, is_leap_year, days_in_month, day_number, counted_day, IsInMonth, IsSupportedYear}
use Rattle.zic_calendar.specs.Weekday.{IsWeekday, first_on_or_after, last_on_or_before}
use Rattle.zic_calendar.specs.DayForm.{last_meant, FormFits, IsDayOf, form_day, IsNearMonth, IsNearSupportedDay, week_of, week_start, days_into_week, weekday_before}
use Rattle.zic_calendar.proofs.YearLemmas.{is_leap_year-period}
use Rattle.zic_calendar.proofs.DateLemmas.{day_number-period, first_has, last_has, supported_day}
use Rattle.zic_calendar.proofs.WeekdayLemmas.{first_is, first_only, first_bounds, last_is, last_only, last_bounds, last-first, first-period, last-period, first-moved}

pub month_length_bounds : (is_leap : Bool) (m : ℕ) → (28 ≤ month_length is_leap m) × (month_length is_leap m ≤ 31)
month_length_bounds is_leap m = grind arith

-- what a month has in each year it has in this one, and this one has no more than a leap year
pub month_length_order : (is_leap : Bool) (m : ℕ) → (month_length false m ≤ month_length is_leap m) × (month_length is_leap m ≤ month_length true m)
month_length_order is_leap m = grind arith

-- the day that `<=` counts back from is a day of the month
pub last_meant_in : (y : ℤ) (m d : ℕ) → IsInRange 1 (month_length true m) d → IsInRange 1 (days_in_month y m) (last_meant y m d)
last_meant_in y m d h = let range : (1 ≤ d) × (d ≤ month_length true m) = h in grind (arith, nat_tests)

last_in_month : (y : ℤ) (m w : ℕ) → IsInMonth y m (last_on_or_before w (day_number y m (days_in_month y m)))
last_in_month y m w =
    omega (arith, signed_arith, last_bounds w (day_number y m (days_in_month y m)), month_length_bounds (is_leap_year y) m)

-- the form names the computed day
pub form_is : (y : ℤ) (m : ℕ) (f : On) → FormFits y m f → IsDayOf y m f (form_day y m f)
unfolding form_day
form_is y m (Day d) h = refl
form_is y m (Last w) h =
    let is = last_is w (day_number y m (days_in_month y m)) h in
    record { holds = (last_in_month y m w, is.holds.1); bound = λ z p. is.bound z (p.0.1, p.1) }
form_is y m (After w d) h = first_is w (day_number y m d) h.0
form_is y m (Before w d) h = last_is w (day_number y m (last_meant y m d)) h.0

-- and no other
pub form_only : (y : ℤ) (m : ℕ) (f : On) (x : ℤ) → FormFits y m f → IsDayOf y m f x → x ≡ form_day y m f
unfolding form_day
form_only y m (Day d) x h is = is
form_only y m (Last w) x h is =
    let found = last_is w (day_number y m (days_in_month y m)) h in
    omega (arith, signed_arith, is.bound (last_on_or_before w (day_number y m (days_in_month y m))) (last_in_month y m w, found.holds.1), found.bound x (is.holds.0.1, is.holds.1))
form_only y m (After w d) x h is = first_only w (day_number y m d) x h.0 is
form_only y m (Before w d) x h is = last_only w (day_number y m (last_meant y m d)) x h.0 is

-- the day lies in the month, or at most six days after or before it
pub form_bounds : (y : ℤ) (m : ℕ) (f : On) → FormFits y m f → IsNearMonth y m f (form_day y m f)
unfolding form_day
form_bounds y m (Day d) h = let range : (1 ≤ d) × (d ≤ days_in_month y m) = h in omega (arith, signed_arith)
form_bounds y m (Last w) h = last_in_month y m w
form_bounds y m (After w d) h =
    let range : (1 ≤ d) × (d ≤ month_length false m) = h.1 in
    omega (arith, signed_arith, first_bounds w (day_number y m d), month_length_order (is_leap_year y) m)
form_bounds y m (Before w d) h =
    let range : (1 ≤ last_meant y m d) × (last_meant y m d ≤ days_in_month y m) = last_meant_in y m d h.1 in
    omega (arith, signed_arith, last_bounds w (day_number y m (last_meant y m d)))

-- 400 years later each form names the day 146,097 days later
pub form_day-period : (y later : ℤ) (m : ℕ) (f : On) → later ≡ y +ℤ pos 400 → form_day later m f ≡ form_day y m f +ℤ pos 146097
unfolding form_day
form_day-period y later m (Day d) e = day_number-period y later m d e
form_day-period y later m (Last w) e =
    rw (is_leap_year-period y later e) (last-period w _ _ (day_number-period y later m (days_in_month y m) e))
form_day-period y later m (After w d) e = first-period w _ _ (day_number-period y later m d e)
form_day-period y later m (Before w d) e =
    rw (is_leap_year-period y later e) (last-period w _ _ (day_number-period y later m (last_meant y m d) e))

-- a form fits as it does 400 years before
pub FormFits-period : (y later : ℤ) (m : ℕ) (f : On) → later ≡ y +ℤ pos 400 → FormFits later m f ↔ FormFits y m f
FormFits-period y later m (Day d) e =
    let same = is_leap_year-period y later e in
    (λ h. rw same at h, λ h. rw same h)
FormFits-period y later m (Last w) e = (λ h. h, λ h. h)
FormFits-period y later m (After w d) e = (λ h. h, λ h. h)
FormFits-period y later m (Before w d) e = (λ h. h, λ h. h)

-- the first X on or after day q is counted from the start of a week
pub first-week : (y : ℤ) (m w : ℕ) (q : ℤ) → IsWeekday w → first_on_or_after w (counted_day y m q) ≡ first_on_or_after (weekday_before w (days_into_week q)) (day_number y m (week_start (week_of q))) +ℤ days_into_week q
first-week y m w q h =
    first-moved w (day_number y m (week_start (week_of q))) (counted_day y m q) (days_into_week q) h (omega (arith, signed_arith))

-- the first X on or after the seventh day from the month's end is the last X
pub form_day-last_week : (y : ℤ) (m w : ℕ) → IsWeekday w → m ≢ 2 → form_day y m (After w (month_length true m - 6)) ≡ form_day y m (Last w)
unfolding form_day
form_day-last_week y m w h other =
    let same : month_length true m ≡ days_in_month y m = grind (arith, nat_tests) in
    let long = month_length_bounds true m in
    rw same (sym (last-first w (day_number y m (days_in_month y m)) (day_number y m (days_in_month y m - 6)) h (omega (arith, signed_arith, month_length_bounds (is_leap_year y) m))))

-- the last X on or before day d is the first X on or after day d less 6
pub form_day-before : (y : ℤ) (m w d : ℕ) → IsWeekday w → form_day y m (Before w d) ≡ first_on_or_after w (counted_day y m (pos (last_meant y m d) -ℤ pos 6))
unfolding form_day
form_day-before y m w d h =
    last-first w (day_number y m (last_meant y m d)) (counted_day y m (pos (last_meant y m d) -ℤ pos 6)) h (omega (arith, signed_arith))

-- on or before the month's last day is the last X, and 29 in February means that day
pub form_day-before_last : (y : ℤ) (m w d : ℕ) → last_meant y m d ≡ days_in_month y m → form_day y m (Before w d) ≡ form_day y m (Last w)
unfolding form_day
form_day-before_last y m w d e = rw e

within : (y : ℤ) (m : ℕ) (f : On) (x : ℤ) → neg_ℤ (pos 719_162) ≤ℤ day_number y m 1 → day_number y m (days_in_month y m) ≤ℤ pos 2_932_896 → IsNearMonth y m f x → IsNearSupportedDay x
within y m (Day d) x low high near = omega (arith, signed_arith)
within y m (Last w) x low high near = omega (arith, signed_arith)
within y m (After w d) x low high near = omega (arith, signed_arith)
within y m (Before w d) x low high near = omega (arith, signed_arith)

-- in the supported years the day lies at most six days outside the supported days
pub form_near : (y : ℤ) (m : ℕ) (f : On) → IsSupportedYear y → IsInRange 1 12 m → FormFits y m f → IsNearSupportedDay (form_day y m f)
form_near y m f year month h =
    let first = supported_day y m 1 (first_has y m month.0 month.1) year in
    let last = supported_day y m (days_in_month y m) (last_has y m month.0 month.1) year in
    within y m f _ first.0 last.1 (form_bounds y m f h)
