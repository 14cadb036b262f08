-- Moments of every year: they lie near their years, and come again after 400.
use Rattle.std.proofs.Common.{◌≡◌, ℕ, zero, suc, ◌+◌, ◌-◌, ◌*◌, ◌/◌, ◌%◌, ◌<◌, ◌≤◌, ◌⊎◌, inl, inr, refl, arith, ℤ, pos, negsuc, ◌+ℤ◌, ◌-ℤ◌, ◌*ℤ◌, ◌<ℤ◌, ◌≤ℤ◌, unsigned_abs}
use Rattle.std.proofs.lemmas.Int.{ints, by_lt_z}
use Rattle.zic_calendar.specs.declared.day_form.On.{On}
use Rattle.zic_calendar.specs.declared.day_form.On.TheVariants.{Day, Last, After, Before}
use Rattle.zic_calendar.specs.Calendar.{day_number, is_leap_year}
use Rattle.zic_calendar.specs.DayForm.{form_day, IsNearMonth}
use Rattle.zic_calendar.proofs.DateLemmas.{days_of_months-zero}
use Rattle.zic_calendar.proofs.FormLemmas.{form_bounds, month_length_bounds}
use Rattle.zic_lines.specs.declared.rule_line.Moment.{Moment}
use Rattle.zic_states.specs.Occurrence.{nominal_second, year_second}
use Rattle.zic_states.proofs.Bounds.{years_apart, moment_to, nominal_second-period}
use Rattle.zic_footer.specs.code.Turns.{IsYearly, LiesBetween, FollowInTurn}

-- ---- near their years

-- a form's day lies from six days before its month's first day to 36 days after it
near_month : (y : ℤ) (m : ℕ) (f : On) (x : ℤ) → IsNearMonth y m f x → (day_number y m 1 ≤ℤ (x +ℤ pos 6)) × (x ≤ℤ (day_number y m 1 +ℤ pos 36))
near_month y m (Day d) x h = let length = month_length_bounds (is_leap_year y) m in (omega (arith, ints), omega (arith, ints))
near_month y m (Last w) x h = let length = month_length_bounds (is_leap_year y) m in (omega (arith, ints), omega (arith, ints))
near_month y m (After w d) x h = let length = month_length_bounds (is_leap_year y) m in (omega (arith, ints), omega (arith, ints))
near_month y m (Before w d) x h = let length = month_length_bounds (is_leap_year y) m in (omega (arith, ints), omega (arith, ints))

second_near : (first day at : ℤ) → first ≤ℤ (day +ℤ pos 6) → day ≤ℤ (first +ℤ pos 36) → unsigned_abs at ≤ 1_080_000
    → ((pos 86_400 *ℤ first) ≤ℤ (((pos 86_400 *ℤ day) +ℤ at) +ℤ pos (19 * 86_400))) × (((pos 86_400 *ℤ day) +ℤ at) ≤ℤ ((pos 86_400 *ℤ first) +ℤ pos (49 * 86_400)))
second_near first day at low high time = (omega (arith, ints), omega (arith, ints))

-- so a moment lies from 19 days before it to 49 days after it
pub moment_near : (year : ℤ) (moment : Moment) → IsYearly moment
    → ((pos 86_400 *ℤ day_number year moment.month 1) ≤ℤ (nominal_second year moment +ℤ pos (19 * 86_400)))
    × (nominal_second year moment ≤ℤ ((pos 86_400 *ℤ day_number year moment.month 1) +ℤ pos (49 * 86_400)))
unfolding nominal_second
moment_near year moment yearly =
    let day = form_day year moment.month moment.on in
    let near = near_month year moment.month moment.on day (form_bounds year moment.month moment.on (yearly.fits year)) in
    second_near (day_number year moment.month 1) day moment.at.seconds near.0 near.1 yearly.sound.at

year_begins : (year : ℤ) (m : ℕ) → year_second year ≤ℤ (pos 86_400 *ℤ day_number year m 1)
unfolding year_second
year_begins year m = omega (arith, ints, days_of_months-zero year)

-- at most 19 days before its year
moment_from : (year : ℤ) (moment : Moment) → IsYearly moment → year_second year ≤ℤ (nominal_second year moment +ℤ pos (19 * 86_400))
moment_from year moment yearly =
    let near = moment_near year moment yearly in
    let begins = year_begins year moment.month in
    omega (arith, ints)

-- where years differ by two, that of the later year is greater
pub two_years_later : (a b : Moment) (x y : ℤ) → IsYearly a → IsYearly b → (x +ℤ pos 2) ≤ℤ y → nominal_second x a <ℤ nominal_second y b
two_years_later a b x y yearly_a yearly_b h =
    let to = moment_to x (x +ℤ pos 1) a refl yearly_a.sound (yearly_a.fits x) in
    let from = moment_from y b yearly_b in
    let apart = years_apart (x +ℤ pos 1) y (omega (arith, ints)) in
    omega (arith, ints)

-- what lies between the moments of this year and the next is of the year before to the second after
pub between_near : (a b : Moment) (year : ℤ) → IsYearly a → IsYearly b → (between : LiesBetween a b year)
    → ((year -ℤ pos 1) ≤ℤ between.other) × (between.other ≤ℤ (year +ℤ pos 2))
between_near a b year yearly_a yearly_b between =
    let after = between.after in
    let before = between.before in (
      by_lt_z between.other (year -ℤ pos 1)
          (λ lt. let early = two_years_later b a between.other year yearly_b yearly_a (omega (arith, ints)) in absurd (omega (arith, ints)))
          (λ ge. ge),
      by_lt_z (year +ℤ pos 2) between.other
          (λ lt. let late = two_years_later a b (year +ℤ pos 1) between.other yearly_a yearly_b (omega (arith, ints)) in absurd (omega (arith, ints)))
          (λ ge. ge),
    )

-- ---- again after centuries

moves : (moment : Moment) (k : ℕ) (year later : ℤ) → later ≡ year +ℤ pos (400 * k)
    → nominal_second later moment ≡ nominal_second year moment +ℤ pos (12_622_780_800 * k)
moves moment zero year later e =
    let same : later ≡ year = omega (arith, ints) in
    rw same (omega (arith, ints))
moves moment (suc k) year later e =
    omega (arith, ints, moves moment k year (later -ℤ pos 400) (omega (arith, ints)), nominal_second-period (later -ℤ pos 400) later moment (omega (arith, ints)))

module _ (a b : Moment) (k : ℕ) (year later : ℤ) (e : later ≡ year +ℤ pos (400 * k)) where
  pub between_later : LiesBetween a b year → LiesBetween a b later
  between_later between =
      let after = between.after in
      let before = between.before in
      let here = moves a k year later e in
      let next = moves a k (year +ℤ pos 1) (later +ℤ pos 1) (omega (arith, ints)) in
      let there = moves b k between.other (between.other +ℤ pos (400 * k)) refl in
      record { other = between.other +ℤ pos (400 * k); after = omega (arith, ints); before = omega (arith, ints) }

  pub between_sooner : LiesBetween a b later → LiesBetween a b year
  between_sooner between =
      let after = between.after in
      let before = between.before in
      let here = moves a k year later e in
      let next = moves a k (year +ℤ pos 1) (later +ℤ pos 1) (omega (arith, ints)) in
      let there = moves b k (between.other -ℤ pos (400 * k)) between.other (omega (arith, ints)) in
      record { other = between.other -ℤ pos (400 * k); after = omega (arith, ints); before = omega (arith, ints) }

-- a number is some 400 from one of these
in_cycle : (y : ℤ) → (base : ℕ) × (k : ℕ) × (base < 400) × ((y ≡ pos base +ℤ pos (400 * k)) ⊎ (pos base ≡ y +ℤ pos (400 * k)))
in_cycle (pos n) = (n % 400, n / 400, omega arith, inl (omega (arith, ints)))
in_cycle (negsuc n) = (399 - n % 400, n / 400 + 1, omega arith, inr (omega (arith, ints)))

-- so 400 years decide of all
pub from_cycle : (a b : Moment) (first : ℕ)
    → ((year : ℕ) → first ≤ year → year < first + 400 → LiesBetween a b (pos year) × LiesBetween b a (pos year)) → FollowInTurn a b
from_cycle a b first each year =
    let (base, k, lt, at) = in_cycle (year -ℤ pos first) in
    let (one, other) = each (first + base) (omega arith) (omega arith) in
    elim at [
      | inl later ↦
          let e : year ≡ pos (first + base) +ℤ pos (400 * k) = omega (arith, ints) in
          (between_later a b k (pos (first + base)) year e one, between_later b a k (pos (first + base)) year e other)
      | inr sooner ↦
          let e : pos (first + base) ≡ year +ℤ pos (400 * k) = omega (arith, ints) in
          (between_sooner a b k year (pos (first + base)) e one, between_sooner b a k year (pos (first + base)) e other)
    ]
