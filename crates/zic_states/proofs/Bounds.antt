-- Where occurrences lie in time: within 19 days outside their years, and their instants within 21 days.
use Rattle.std.proofs.Common.{◌≡◌, ℕ, zero, suc, ◌*◌, ◌≤◌, All, inl, inr, refl, arith, ℤ, pos, ◌+ℤ◌, ◌*ℤ◌, ◌<ℤ◌, ◌≤ℤ◌, unsigned_abs}
use Rattle.std.proofs.lemmas.Int.{ints, by_lt_z}
use Rattle.zic_calendar.specs.declared.day_form.On.{On}
use Rattle.zic_calendar.specs.declared.day_form.On.TheVariants.{Day, Last, After, Before}
use Rattle.zic_calendar.specs.Calendar.{days_in_month, days_in_year, day_number}
use Rattle.zic_calendar.specs.DayForm.{FormFits, form_day, IsNearMonth}
use Rattle.zic_calendar.proofs.YearLemmas.{year_start-later}
use Rattle.zic_calendar.proofs.DateLemmas.{day_number-rises, day_number-period, day_number-next_year, days_of_months-zero, first_has, last_has}
use Rattle.zic_calendar.proofs.FormLemmas.{form_bounds, form_day-period}
use Rattle.zic_lines.specs.Month.{IsMonth}
use Rattle.zic_lines.specs.declared.rule_line.Moment.{Moment}
use Rattle.zic_lines.specs.declared.rule_line.Rule.{Rule}
use Rattle.zic_lines.specs.declared.clock.ClockForm.{ClockForm}
use Rattle.zic_lines.specs.declared.clock.ClockForm.TheVariants.{Wall, Standard, Universal}
use Rattle.zic_source.specs.Sound.{IsSoundRule, IsSoundMoment, OccursIn, IsWithinDay}
use Rattle.zic_base.proofs.Elements.{all_got}
use Rattle.zic_states.specs.Occurrence.{RuleSet, Occurrence, IsOccurrence, nominal, nominal_second, year_second}
use Rattle.zic_states.specs.Order.{IsSavedBefore, IsInstant, instant_by}

-- ---- days

pub near_month : (y : ℤ) (m : ℕ) (f : On) (x : ℤ) → IsNearMonth y m f x → (day_number y m 1 ≤ℤ (x +ℤ pos 6)) × (x ≤ℤ (day_number y m (days_in_month y m) +ℤ pos 6))
near_month y m (Day d) x h = omega (arith, ints)
near_month y m (Last w) x h = omega (arith, ints)
near_month y m (After w d) x h = omega (arith, ints)
near_month y m (Before w d) x h = omega (arith, ints)

-- a form's day lies at most six days outside its year
form_in_year : (y next : ℤ) (m : ℕ) (f : On) → next ≡ y +ℤ pos 1 → IsMonth m → FormFits y m f → (day_number y 1 1 ≤ℤ (form_day y m f +ℤ pos 6)) × (form_day y m f <ℤ (day_number next 1 1 +ℤ pos 6))
form_in_year y next m f e month fits =
    let near = near_month y m f (form_day y m f) (form_bounds y m f fits) in
    let rises = day_number-rises y m (days_in_month y m) next 1 1 (last_has y m month.0 month.1) (first_has next 1 (omega arith) (omega arith)) (inl (omega (arith, ints))) in
    omega (arith, ints, days_of_months-zero y)

-- a month ends at least 13 days before the same month of the next year
month_next_year : (y next : ℤ) (m : ℕ) → next ≡ y +ℤ pos 1 → IsMonth m → (day_number y m (days_in_month y m) +ℤ pos 13) ≤ℤ day_number next m 1
month_next_year y next zero e month = absurd (omega (arith, month.0))
month_next_year y next (suc zero) e month =
    let december = day_number-rises y 1 31 y 12 1 (last_has y 1 (omega arith) (omega arith)) (first_has y 12 (omega arith) (omega arith)) (inr (refl, inl (omega arith))) in
    omega (arith, ints, day_number-next_year y next e)
month_next_year y next (suc (suc k)) e month =
    let january = day_number-rises next 1 31 next (suc (suc k)) 1 (last_has next 1 (omega arith) (omega arith)) (first_has next (suc (suc k)) month.0 month.1) (inr (refl, inl (omega arith))) in
    let rises = day_number-rises y (suc (suc k)) (days_in_month y (suc (suc k))) next 1 1 (last_has y (suc (suc k)) month.0 month.1) (first_has next 1 (omega arith) (omega arith)) (inl (omega (arith, ints))) in
    omega (arith, ints)

-- so a form's day comes before that of the next year
form_next_year : (y next : ℤ) (m : ℕ) (f : On) → next ≡ y +ℤ pos 1 → IsMonth m → FormFits y m f → FormFits next m f → form_day y m f <ℤ form_day next m f
form_next_year y next m f e month fits fits_next =
    let near = near_month y m f (form_day y m f) (form_bounds y m f fits) in
    let near_next = near_month next m f (form_day next m f) (form_bounds next m f fits_next) in
    let apart = month_next_year y next m e month in
    omega (arith, ints)

-- ---- seconds

pub nominal_second-is : (y : ℤ) (moment : Moment) → nominal_second y moment ≡ (pos 86_400 *ℤ form_day y moment.month moment.on) +ℤ moment.at.seconds
unfolding nominal_second
nominal_second-is y moment = refl

year_second-is : (y : ℤ) → year_second y ≡ pos 86_400 *ℤ day_number y 1 1
unfolding year_second
year_second-is y = refl

-- 19 days are six days, 300 hours and half a day
second_from : (first day at : ℤ) → first ≤ℤ (day +ℤ pos 6) → unsigned_abs at ≤ 1_080_000 → (pos 86_400 *ℤ first) ≤ℤ (((pos 86_400 *ℤ day) +ℤ at) +ℤ pos (19 * 86_400))
second_from first day at h time = omega (arith, ints)

second_to : (next day at : ℤ) → day <ℤ (next +ℤ pos 6) → unsigned_abs at ≤ 1_080_000 → ((pos 86_400 *ℤ day) +ℤ at) <ℤ ((pos 86_400 *ℤ next) +ℤ pos (19 * 86_400))
second_to next day at h time = omega (arith, ints)

second_rises : (day later at : ℤ) → day <ℤ later → ((pos 86_400 *ℤ day) +ℤ at) <ℤ ((pos 86_400 *ℤ later) +ℤ at)
second_rises day later at h = omega (arith, ints)

second_moves : (day later at : ℤ) → later ≡ day +ℤ pos 146_097 → (pos 86_400 *ℤ later) +ℤ at ≡ ((pos 86_400 *ℤ day) +ℤ at) +ℤ pos 12_622_780_800
second_moves day later at h = omega (arith, ints)

year_apart : (day later : ℤ) → (day +ℤ pos 365) ≤ℤ later → ((pos 86_400 *ℤ day) +ℤ pos (365 * 86_400)) ≤ℤ (pos 86_400 *ℤ later)
year_apart day later h = omega (arith, ints)

year_days : (y later : ℤ) → y <ℤ later → (day_number y 1 1 +ℤ pos 365) ≤ℤ day_number later 1 1
year_days y later h =
    let long : 365 ≤ days_in_year y = grind arith in
    omega (arith, ints, year_start-later y later h, days_of_months-zero y, days_of_months-zero later)

-- years have at least 365 days
pub years_apart : (y later : ℤ) → y <ℤ later → (year_second y +ℤ pos (365 * 86_400)) ≤ℤ year_second later
years_apart y later h = rw (year_second-is y, year_second-is later) (year_apart (day_number y 1 1) (day_number later 1 1) (year_days y later h))

-- ---- nominal seconds

-- a moment of a year comes less than 19 days after the year's end
pub moment_to : (year next : ℤ) (moment : Moment) → next ≡ year +ℤ pos 1 → IsSoundMoment moment → FormFits year moment.month moment.on → nominal_second year moment <ℤ (year_second next +ℤ pos (19 * 86_400))
moment_to year next moment e sound fits =
    let days = form_in_year year next moment.month moment.on e sound.month fits in
    rw (year_second-is next, nominal_second-is year moment) (second_to (day_number next 1 1) (form_day year moment.month moment.on) moment.at.seconds days.1 sound.at)

-- the rule of an occurrence is sound
pub sound_rule : (set : RuleSet) (o : Occurrence) → All IsSoundRule set.rules → IsOccurrence set o → IsSoundRule o.rule
sound_rule set o sound is = all_got IsSoundRule set.rules o.number o.rule sound is.member.numbered

-- a nominal second lies within 19 days outside its year
pub nominal_from : (set : RuleSet) (o : Occurrence) → All IsSoundRule set.rules → IsOccurrence set o → year_second o.year ≤ℤ (nominal o +ℤ pos (19 * 86_400))
nominal_from set o sound is =
    let rule = sound_rule set o sound is in
    let days = form_in_year o.year (o.year +ℤ pos 1) o.rule.moment.month o.rule.moment.on refl rule.moment.month (rule.fits o.year is.holds) in
    rw (year_second-is o.year, nominal_second-is o.year o.rule.moment) (second_from (day_number o.year 1 1) (form_day o.year o.rule.moment.month o.rule.moment.on) o.rule.moment.at.seconds days.0 rule.moment.at)

pub nominal_to : (set : RuleSet) (o : Occurrence) (next : ℤ) → next ≡ o.year +ℤ pos 1 → All IsSoundRule set.rules → IsOccurrence set o → nominal o <ℤ (year_second next +ℤ pos (19 * 86_400))
nominal_to set o next e sound is =
    let rule = sound_rule set o sound is in
    moment_to o.year next o.rule.moment e rule.moment (rule.fits o.year is.holds)

-- where years differ by two, that of the later year is greater
pub two_years : (set : RuleSet) (o p : Occurrence) → All IsSoundRule set.rules → IsOccurrence set o → IsOccurrence set p → (o.year +ℤ pos 2) ≤ℤ p.year → nominal o <ℤ nominal p
two_years set o p sound is_o is_p h =
    let to = nominal_to set o (o.year +ℤ pos 1) refl sound is_o in
    let from = nominal_from set p sound is_p in
    let apart = years_apart (o.year +ℤ pos 1) p.year (omega (arith, ints)) in
    omega (arith, ints)

-- one rule's nominal second of the next year is greater
pub next_year : (rule : Rule) (y next : ℤ) → next ≡ y +ℤ pos 1 → IsSoundRule rule → OccursIn rule y → OccursIn rule next → nominal_second y rule.moment <ℤ nominal_second next rule.moment
next_year rule y next e sound here there =
    rw (nominal_second-is y rule.moment, nominal_second-is next rule.moment)
    (second_rises (form_day y rule.moment.month rule.moment.on) (form_day next rule.moment.month rule.moment.on) rule.moment.at.seconds (form_next_year y next rule.moment.month rule.moment.on e sound.moment.month (sound.fits y here) (sound.fits next there)))

-- so one rule's nominal seconds rise with the year
pub rises_with_year : (set : RuleSet) (o : Occurrence) (year : ℤ) → All IsSoundRule set.rules → IsOccurrence set o → IsOccurrence set (record o { year = year }) → o.year <ℤ year → nominal o <ℤ nominal_second year o.rule.moment
rises_with_year set o year sound is later lt =
    by_lt_z year (o.year +ℤ pos 2)
    (λ near. next_year o.rule o.year year (omega (arith, ints)) (sound_rule set o sound is) is.holds later.holds)
    (λ far. two_years set o (record o { year = year }) sound is later far)

-- 400 years are 12,622,780,800 seconds
pub nominal_second-period : (y later : ℤ) (moment : Moment) → later ≡ y +ℤ pos 400 → nominal_second later moment ≡ nominal_second y moment +ℤ pos 12_622_780_800
nominal_second-period y later moment e =
    rw (nominal_second-is y moment, nominal_second-is later moment) (second_moves (form_day y moment.month moment.on) (form_day later moment.month moment.on) moment.at.seconds (form_day-period y later moment.month moment.on e))

year_moves : (day later : ℤ) → later ≡ day +ℤ pos 146_097 → pos 86_400 *ℤ later ≡ (pos 86_400 *ℤ day) +ℤ pos 12_622_780_800
year_moves day later h = omega (arith, ints)

pub year_second-period : (y later : ℤ) → later ≡ y +ℤ pos 400 → year_second later ≡ year_second y +ℤ pos 12_622_780_800
year_second-period y later e =
    rw (year_second-is y, year_second-is later) (year_moves (day_number y 1 1) (day_number later 1 1) (day_number-period y later 1 1 e))

-- ---- instants

instant_near : (form : ClockForm) (offset saved second : ℤ) → IsWithinDay offset → IsWithinDay saved → (second ≤ℤ (instant_by form offset saved second +ℤ pos (2 * 86_400))) × (instant_by form offset saved second ≤ℤ (second +ℤ pos (2 * 86_400)))
instant_near Universal offset saved second h k = omega (arith, ints)
instant_near Standard offset saved second h k = omega (arith, ints)
instant_near Wall offset saved second h k = omega (arith, ints)

saved_within : (set : RuleSet) (o : Occurrence) (saved : ℤ) → All IsSoundRule set.rules → IsSavedBefore set o saved → IsWithinDay saved
saved_within set o saved sound (inl (first, e)) = rw e (omega arith)
saved_within set o saved sound (inr (p, before, e)) = rw e (sound_rule set p sound before.is).saving

-- an instant lies within 48 hours of its nominal second
pub instant_near_nominal : (set : RuleSet) (offset : ℤ) (o : Occurrence) (t : ℤ) → All IsSoundRule set.rules → IsWithinDay offset → IsInstant set offset o t → (nominal o ≤ℤ (t +ℤ pos (2 * 86_400))) × (t ≤ℤ (nominal o +ℤ pos (2 * 86_400)))
instant_near_nominal set offset o t sound h at =
    rw at.is (instant_near o.rule.moment.at.form offset at.saved (nominal o) h (saved_within set o at.saved sound at.is_saved))

-- and within 21 days outside its year
pub instant_from : (set : RuleSet) (offset : ℤ) (o : Occurrence) (t : ℤ) → All IsSoundRule set.rules → IsWithinDay offset → IsOccurrence set o → IsInstant set offset o t → year_second o.year ≤ℤ (t +ℤ pos (21 * 86_400))
instant_from set offset o t sound h is at =
    let near = instant_near_nominal set offset o t sound h at in
    let from = nominal_from set o sound is in
    omega (arith, ints)

pub instant_to : (set : RuleSet) (offset : ℤ) (o : Occurrence) (t next : ℤ) → next ≡ o.year +ℤ pos 1 → All IsSoundRule set.rules → IsWithinDay offset → IsOccurrence set o → IsInstant set offset o t → t <ℤ (year_second next +ℤ pos (21 * 86_400))
instant_to set offset o t next e sound h is at =
    let near = instant_near_nominal set offset o t sound h at in
    let to = nominal_to set o next e sound is in
    omega (arith, ints)
