-- A rule's nominal seconds of neighbouring years are at most 450 days apart.
use Rattle.std.proofs.Common.{◌≡◌, ℕ, zero, suc, ◌-◌, ◌*◌, ◌≤◌, arith, ℤ, pos, ◌+ℤ◌, ◌*ℤ◌, ◌≤ℤ◌}
use Rattle.std.proofs.lemmas.Int.{ints}
use Rattle.zic_calendar.specs.declared.day_form.On.{On}
use Rattle.zic_calendar.specs.declared.day_form.On.TheVariants.{Day, Last, After, Before}
use Rattle.zic_calendar.specs.Calendar.{days_in_month, days_in_year, days_of_months, day_number, is_leap_year}
use Rattle.zic_calendar.specs.DayForm.{form_day, IsNearMonth}
use Rattle.zic_calendar.proofs.YearLemmas.{year_start-next}
use Rattle.zic_calendar.proofs.FormLemmas.{form_bounds, month_length_bounds}
use Rattle.zic_lines.specs.Month.{IsMonth}
use Rattle.zic_source.specs.Sound.{IsSoundRule, OccursIn}
use Rattle.zic_lines.specs.declared.rule_line.Rule.{Rule}
use Rattle.zic_states.specs.Occurrence.{nominal_second}

-- a month has 28 to 31 days
months_bounds : (y : ℤ) (n : ℕ) → (28 * n ≤ days_of_months y n) × (days_of_months y n ≤ 31 * n)
unfolding days_of_months
months_bounds y zero = (omega arith, omega arith)
months_bounds y (suc n) =
    let before = months_bounds y n in
    let length = month_length_bounds (is_leap_year y) (suc n) in
    (omega arith, omega arith)

year_length : (y : ℤ) → days_in_year y ≤ 366
year_length y = grind arith

-- a month ends at most 430 days after the same month of the year before begins
month_to_next : (y next : ℤ) (m : ℕ) → next ≡ y +ℤ pos 1 → IsMonth m
    → day_number next m (days_in_month next m) ≤ℤ (day_number y m 1 +ℤ pos 430)
month_to_next y next m e month =
    let year = year_start-next y next e in
    let length = year_length y in
    let here = months_bounds y (m - 1) in
    let there = months_bounds next (m - 1) in
    let days = month_length_bounds (is_leap_year next) m in
    omega (arith, ints)

near_next : (y next : ℤ) (m : ℕ) (f : On) (x z : ℤ) → day_number next m (days_in_month next m) ≤ℤ (day_number y m 1 +ℤ pos 430)
    → IsNearMonth y m f x → IsNearMonth next m f z → z ≤ℤ (x +ℤ pos 450)
near_next y next m (Day d) x z near here there = omega (arith, ints)
near_next y next m (Last w) x z near here there = omega (arith, ints)
near_next y next m (After w d) x z near here there = omega (arith, ints)
near_next y next m (Before w d) x z near here there = omega (arith, ints)

seconds_apart : (x z at : ℤ) → z ≤ℤ (x +ℤ pos 450)
    → ((pos 86_400 *ℤ z) +ℤ at) ≤ℤ (((pos 86_400 *ℤ x) +ℤ at) +ℤ pos (450 * 86_400))
seconds_apart x z at h = omega (arith, ints)

pub next_near : (rule : Rule) (y next : ℤ) → next ≡ y +ℤ pos 1 → IsSoundRule rule → OccursIn rule y → OccursIn rule next
    → nominal_second next rule.moment ≤ℤ (nominal_second y rule.moment +ℤ pos (450 * 86_400))
unfolding nominal_second
next_near rule y next e sound here there =
    let month = rule.moment.month in
    let form = rule.moment.on in
    seconds_apart (form_day y month form) (form_day next month form) rule.moment.at.seconds
    (near_next y next month form (form_day y month form) (form_day next month form)
    (month_to_next y next month e sound.moment.month)
    (form_bounds y month form (sound.fits y here))
    (form_bounds next month form (sound.fits next there)))
