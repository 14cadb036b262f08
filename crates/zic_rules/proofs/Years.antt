-- Years of instants, and where they lie among the numbers.
use Rattle.std.proofs.Common.{◌≡◌, ℕ, ◌<◌, ◌≤◌, inl, inr, refl, ap, ◌∙◌, arith, ℤ, pos, negsuc, neg_ℤ, ◌+ℤ◌, ◌*ℤ◌, ◌<ℤ◌, ◌≤ℤ◌, to_z, of_z, w64}
use Rattle.std.specs.Int.{int_div_euclid}
use Rattle.std.proofs.lemmas.Bool.{cases_lt}
use Rattle.std.proofs.lemmas.Int.{ints, by_lt_z}
use Rattle.zic_calendar.specs.Calendar.{day_number, IsDate, IsEarlier, year_start}
use Rattle.zic_calendar.proofs.YearLemmas.{year_start-next, year_start-1970}
use Rattle.zic_calendar.proofs.DateLemmas.{day_number-rises, first_has, cases_date, days_of_months-zero, supported_day}
use Rattle.zic_states.specs.Occurrence.{year_second}
use Rattle.zic_states.proofs.Bounds.{years_apart}
use Rattle.zic_states.specs.End.{IsYearOf}
use Rattle.zic_rules.specs.code.End.{IsInYears}

pub year_second-is : (y : ℤ) → year_second y ≡ pos 86_400 *ℤ day_number y 1 1
unfolding year_second
year_second-is y = refl

-- the day of an instant
pub floor : (t : ℤ) → ((pos 86_400 *ℤ int_div_euclid t (pos 86_400)) ≤ℤ t) × (t <ℤ ((pos 86_400 *ℤ int_div_euclid t (pos 86_400)) +ℤ pos 86_400))
floor (pos n) = (omega (arith, ints), omega (arith, ints))
floor (negsuc n) = (omega (arith, ints), omega (arith, ints))

first_day : (y : ℤ) → IsDate y 1 1
first_day y = first_has y 1 (omega arith) (omega arith)

pub years_rise : (y z : ℤ) → y <ℤ z → (year_second y +ℤ pos 31_536_000) ≤ℤ year_second z
years_rise y z lt = years_apart y z lt

pub not_later : (y z : ℤ) → y ≤ℤ z → year_second y ≤ℤ year_second z
not_later y z le = by_lt_z y z
    (λ lt. let rise = years_rise y z lt in omega (arith, ints))
    (λ ge. let same : y ≡ z = omega (arith, ints) in rw same (omega (arith, ints)))

-- the years from 1 to 9999 among the numbers
pub low : (pos 86_400 *ℤ neg_ℤ (pos 719_162)) ≤ℤ year_second (pos 1)
low =
    let day = supported_day (pos 1) 1 1 (first_day (pos 1)) (omega (arith, ints), omega (arith, ints)) in
    omega (arith, ints, day, year_second-is (pos 1))

pub low_0 : (pos 86_400 *ℤ neg_ℤ (pos 719_528)) ≤ℤ year_second (pos 0)
low_0 =
    let next : year_start (pos 1) ≡ year_start (pos 0) +ℤ pos 366 = year_start-next (pos 0) (pos 1) refl in
    omega (arith, ints, low, year_second-is (pos 1), year_second-is (pos 0), next, days_of_months-zero (pos 0), days_of_months-zero (pos 1))

pub high : year_second (pos 9999) ≤ℤ (pos 86_400 *ℤ pos 2_932_896)
high =
    let day = supported_day (pos 9999) 1 1 (first_day (pos 9999)) (omega (arith, ints), omega (arith, ints)) in
    omega (arith, ints, day, year_second-is (pos 9999))

pub year_1970 : year_second (pos 1970) ≡ pos 0
year_1970 = omega (arith, ints, year_second-is (pos 1970), year_start-1970, days_of_months-zero (pos 1970))

-- an instant of these years is no great number
pub small : (year : ℕ) (t : ℤ) → year ≤ 9999 → IsInYears year t → (neg_ℤ (pos 62_167_219_200) ≤ℤ t) × (t <ℤ pos 253_402_214_400)
small year t le (from, to) =
    let above = not_later (pos year) (pos 9999) (omega (arith, ints)) in
    (omega (arith, ints, from, low_0), omega (arith, ints, to, above, high))

-- the day of an instant of the code
pub record DayOf (t day : ℤ) : Type 0 where
  pub from : (pos 86_400 *ℤ day) ≤ℤ t
  pub to : t <ℤ ((pos 86_400 *ℤ day) +ℤ pos 86_400)
  pub fits : to_z w64 (of_z w64 day) ≡ day
  pub below : day ≤ℤ pos 2_932_896

pub day_of_instant : (t day : ℤ) → IsInYears 9999 t → day ≡ int_div_euclid (to_z w64 (of_z w64 t)) (pos 86_400) → DayOf t day
day_of_instant t day in_years is =
    let near = small 9999 t (omega arith) in_years in
    let cast : to_z w64 (of_z w64 t) ≡ t = omega (arith, ints, near) in
    let bounds = floor t in
    let same : day ≡ int_div_euclid t (pos 86_400) = is ∙ ap (λ (u : ℤ). int_div_euclid u (pos 86_400)) cast in
    let from : (pos 86_400 *ℤ day) ≤ℤ t = rw same bounds.0 in
    let to : t <ℤ ((pos 86_400 *ℤ day) +ℤ pos 86_400) = rw same bounds.1 in
    record {
      from = from;
      to = to;
      fits = omega (arith, ints, near, from, to);
      below = omega (arith, ints, near, from, to);
    }

-- before the year 1
pub year_0 : (t day : ℤ) → year_second (pos 0) ≤ℤ t → t <ℤ ((pos 86_400 *ℤ day) +ℤ pos 86_400) → day <ℤ neg_ℤ (pos 719_162) → IsYearOf t (pos 0)
year_0 t day from floor lt = record { begun = from; not_over = omega (arith, ints, low, floor, lt) }

not_before_first : (y : ℤ) (m d : ℕ) → IsDate y m d → IsEarlier y m d y 1 1 → ⊥
not_before_first y m d is (inl lt) = absurd (omega (arith, ints))
not_before_first y m d is (inr (same, inl lt)) = absurd (omega (arith, is.0.0))
not_before_first y m d is (inr (same, inr (one, lt))) = absurd (omega (arith, is.1.0))

pub first_of_year : (y : ℤ) (m d : ℕ) → IsDate y m d → day_number y 1 1 ≤ℤ day_number y m d
first_of_year y m d is = elim (cases_date y m d y 1 1) [
  | inl earlier ↦ absurd (not_before_first y m d is earlier)
  | inr (inl later) ↦ let rises = day_number-rises y 1 1 y m d (first_day y) is later in omega (arith, ints)
  | inr (inr same) ↦ rw (same.1, same.2) (omega (arith, ints))
]

-- the year of the day on which an instant lies
pub year_of_day : (t day y : ℤ) (m d : ℕ) → (pos 86_400 *ℤ day) ≤ℤ t → t <ℤ ((pos 86_400 *ℤ day) +ℤ pos 86_400) → IsDate y m d → day_number y m d ≡ day → IsYearOf t y
year_of_day t day y m d from to is same =
    let next = y +ℤ pos 1 in
    let below = day_number-rises y m d next 1 1 is (first_day next) (inl (omega (arith, ints))) in
    let first = first_of_year y m d is in
    record {
      begun = omega (arith, ints, from, first, same, year_second-is y);
      not_over = omega (arith, ints, to, below, same, year_second-is next);
    }

pub in_later_years : (year later : ℕ) (t : ℤ) → year ≤ later → IsInYears year t → IsInYears later t
in_later_years year later t le (from, to) =
    let above = not_later (pos year) (pos later) (omega (arith, ints)) in
    (from, omega (arith, ints, to, above))

pub cast : (year : ℕ) (t : ℤ) → year ≤ 9999 → IsInYears year t → to_z w64 (of_z w64 t) ≡ t
cast year t le in_years = omega (arith, ints, small year t le in_years)

-- the year of an instant before a year
pub year_before : (t : ℤ) (y year : ℕ) → IsYearOf t (pos y) → t <ℤ year_second (pos year) → y < year
year_before t y year of lt = elim (cases_lt y year) [
  | inl less ↦ less
  | inr ge ↦ let later = not_later (pos year) (pos y) (omega (arith, ints)) in absurd (omega (arith, ints, later, lt, of.begun))
]
