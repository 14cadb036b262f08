-- Moments of months that lie apart follow each other in turn.
use Rattle.std.proofs.Common.{◌≡◌, ℕ, zero, suc, ◌+◌, ◌-◌, ◌*◌, ◌≤◌, inl, inr, refl, arith, ℤ, pos, ◌+ℤ◌, ◌*ℤ◌, ◌<ℤ◌, ◌≤ℤ◌}
use Rattle.std.proofs.lemmas.Bool.{cases_lt}
use Rattle.std.proofs.lemmas.Int.{ints}
use Rattle.zic_calendar.specs.Calendar.{day_number, days_of_months, is_leap_year}
use Rattle.zic_calendar.proofs.DateLemmas.{day_number-next_year, days_of_months-zero}
use Rattle.zic_calendar.proofs.FormLemmas.{month_length_bounds}
use Rattle.zic_lines.specs.Month.{IsMonth}
use Rattle.zic_lines.specs.declared.rule_line.Moment.{Moment}
use Rattle.zic_states.specs.Occurrence.{nominal_second}
use Rattle.zic_footer.specs.code.Turns.{IsYearly, LiesBetween, FollowInTurn, AreMonthsApart}
use Rattle.zic_footer.proofs.Moments.{moment_near}

-- a month has at least 28 days
months_later : (y : ℤ) (m n : ℕ) → m ≤ n → days_of_months y m + 28 * n ≤ days_of_months y n + 28 * m
unfolding days_of_months
months_later y m zero h = let none : m ≡ 0 = omega arith in rw none (omega arith)
months_later y m (suc n) h = elim (cases_lt m (suc n)) [
  | inl lt ↦
      let before = months_later y m n (omega arith) in
      let length = month_length_bounds (is_leap_year y) (suc n) in
      omega arith
  | inr ge ↦ let same : m ≡ suc n = omega arith in rw same (omega arith)
]

-- three months have at least 84, also over the turn of a year
in_year : (y : ℤ) (m n : ℕ) → IsMonth m → m + 3 ≤ n → (day_number y m 1 +ℤ pos 84) ≤ℤ day_number y n 1
in_year y m n month apart = let later = months_later y (m - 1) (n - 1) (omega arith) in omega (arith, ints, month.0)

to_next : (y next : ℤ) (m n : ℕ) → next ≡ y +ℤ pos 1 → IsMonth m → IsMonth n → n ≤ m + 9 → (day_number y n 1 +ℤ pos 84) ≤ℤ day_number next m 1
to_next y next m n e month other apart =
    let year = day_number-next_year y next e in
    let rest = months_later y (n - 1) 11 (omega (arith, other)) in
    let begun = months_later next 0 (m - 1) (omega arith) in
    omega (arith, ints, month, other, days_of_months-zero next)

-- more than a form and a time lead out of a month
comes_before : (first next : ℤ) (x z : ℤ) → (first +ℤ pos 84) ≤ℤ next → x ≤ℤ ((pos 86_400 *ℤ first) +ℤ pos (49 * 86_400))
    → (pos 86_400 *ℤ next) ≤ℤ (z +ℤ pos (19 * 86_400)) → x <ℤ z
comes_before first next x z apart to from = omega (arith, ints)

module _ (a b : Moment) (yearly_a : IsYearly a) (yearly_b : IsYearly b) (before : a.month + 3 ≤ b.month) (after : b.month ≤ a.month + 9) where
  -- of one year the moment of the earlier month comes first, and that of the next year after both
  first_a : (year : ℤ) → nominal_second year a <ℤ nominal_second year b
  first_a year =
      comes_before (day_number year a.month 1) (day_number year b.month 1) (nominal_second year a) (nominal_second year b)
      (in_year year a.month b.month yearly_a.sound.month before) (moment_near year a yearly_a).1 (moment_near year b yearly_b).0

  then_a : (year next : ℤ) → next ≡ year +ℤ pos 1 → nominal_second year b <ℤ nominal_second next a
  then_a year next e =
      comes_before (day_number year b.month 1) (day_number next a.month 1) (nominal_second year b) (nominal_second next a)
      (to_next year next a.month b.month e yearly_a.sound.month yearly_b.sound.month after) (moment_near year b yearly_b).1 (moment_near next a yearly_a).0

  pub between_a : (year : ℤ) → LiesBetween a b year
  between_a year = record { other = year; after = first_a year; before = then_a year (year +ℤ pos 1) refl }

  pub between_b : (year : ℤ) → LiesBetween b a year
  between_b year = record { other = year +ℤ pos 1; after = then_a year (year +ℤ pos 1) refl; before = first_a (year +ℤ pos 1) }

pub months_apart : (a b : Moment) → IsYearly a → IsYearly b → AreMonthsApart a.month b.month → FollowInTurn a b
months_apart a b yearly_a yearly_b apart year = elim (cases_lt a.month b.month) [
  | inl lt ↦
      let before : a.month + 3 ≤ b.month = omega (arith, apart) in
      let after : b.month ≤ a.month + 9 = omega (arith, apart) in
      (between_a a b yearly_a yearly_b before after year, between_b a b yearly_a yearly_b before after year)
  | inr ge ↦
      let before : b.month + 3 ≤ a.month = omega (arith, apart) in
      let after : a.month ≤ b.month + 9 = omega (arith, apart) in
      (between_b b a yearly_b yearly_a before after year, between_a b a yearly_b yearly_a before after year)
]
