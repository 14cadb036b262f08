-- Local time by counting is civil time.
use Rattle.std.proofs.Common.{◌≡◌, ℕ, zero, suc, ◌+◌, ◌*◌, ◌/◌, ◌%◌, ◌<◌, ◌≤◌, Bool, true, false, inl, inr, refl, sym, ◌∙◌, ap, subst, arith, ℤ, pos, negsuc, ◌<ℤ◌, ◌≤ℤ◌, unsigned_abs}
use Rattle.std.proofs.lemmas.Int.{ints, by_lt_z}
use Rattle.std.proofs.lemmas.Bool.{cases_lt}
use Rattle.std.specs.Prelude.{int_le, if◌then◌else◌}
use Rattle.zic_calendar.specs.Calendar.{year_start, month_start, day_number, IsDate, IsSupportedDay}
use Rattle.zic_calendar.specs.Civil.{IsOnDay, IsAtSecond}
use Rattle.zic_calendar.proofs.YearLemmas.{year_start-later}
use Rattle.zic_calendar.proofs.DateLemmas.{date_exists, supported_year, day_within_year, day_before_month, first_has}
use Rattle.zic_row_text.specs.Local.{begun, year_of, month_of, day_of_month, day_at, second_at, local_time, civil_of}

not_above : (a b : ℤ) → a ≤ℤ b → int_le a b ≡ true
not_above a b h = grind (arith, ints)

above : (a b : ℤ) → b <ℤ a → int_le a b ≡ false
above a b h = grind (arith, ints)

begun-suc : (start : ℕ → ℤ) (n : ℕ) (day : ℤ) (b : Bool) → int_le (start (suc n)) day ≡ b → begun start (suc n) day ≡ begun start n day + (if b then 1 else 0)
unfolding begun
begun-suc start n day b e = ap (λ (c : Bool). begun start n day + (if c then 1 else 0)) e

begun-zero : (start : ℕ → ℤ) (day : ℤ) → begun start 0 day ≡ 0
unfolding begun
begun-zero start day = refl

-- where all have begun, all are counted
begun_all : (start : ℕ → ℤ) (n : ℕ) (day : ℤ) → ((i : ℕ) → 1 ≤ i → i ≤ n → start i ≤ℤ day) → begun start n day ≡ n
begun_all start zero day early = begun-zero start day
begun_all start (suc n) day early =
    let before = begun_all start n day (λ i low high. early i low (omega arith)) in
    let here = begun-suc start n day true (not_above (start (suc n)) day (early (suc n) (omega arith) (omega arith))) in
    omega (arith, before, here)

-- where the first k have begun and no other has, k are counted
pub begun_first : (start : ℕ → ℤ) (n k : ℕ) (day : ℤ) → k ≤ n → ((i : ℕ) → 1 ≤ i → i ≤ k → start i ≤ℤ day) → ((i : ℕ) → k < i → i ≤ n → day <ℤ start i) → begun start n day ≡ k
begun_first start zero k day le early late = let none : k ≡ 0 = omega arith in begun-zero start day ∙ sym none
begun_first start (suc n) k day le early late =
    elim (cases_lt k (suc n)) [
      | inl lt ↦
          let before = begun_first start n k day (omega arith) early (λ i low high. late i low (omega arith)) in
          let here = begun-suc start n day false (above (start (suc n)) day (late (suc n) lt (omega arith))) in
          omega (arith, before, here)
      | inr ge ↦
          let all : k ≡ suc n = omega arith in
          begun_all start (suc n) day (λ i low high. early i low (omega arith)) ∙ sym all
    ]

-- the year, the month and the day of a date are those of its day
pub date_of_day : (year m d : ℕ) (day : ℤ) → 1 ≤ year → year ≤ 9999 → IsDate (pos year) m d → day_number (pos year) m d ≡ day → (year_of day ≡ year) × (month_of day ≡ m) × (day_of_month day ≡ d)
date_of_day year m d day low high is number =
    let y = pos year in
    let within = day_within_year y m d is in
    let first_day = is.1.0 in
    let of_year : year_of day ≡ year = begun_first (λ (i : ℕ). year_start (pos i)) 9999 year day high
    (λ i one le. by_lt_z (pos i) y
    (λ lt. omega (arith, ints, year_start-later (pos i) y lt))
    (λ ge. let same : i ≡ year = omega (arith, ints) in rw same (omega (arith, ints))))
    (λ i lt le. omega (arith, ints, year_start-later y (pos i) (omega (arith, ints)))) in
    let of_begun : begun (month_start y) 12 day ≡ m = begun_first (month_start y) 12 m day is.0.1
    (λ i one le. elim (cases_lt i m) [
      | inl lt ↦ omega (arith, ints, day_before_month y i 1 m (first_has y i one (omega (arith, is.0.1))) lt)
      | inr ge ↦ let same : i ≡ m = omega arith in rw same (omega (arith, ints))
    ])
    (λ i lt le. omega (arith, ints, day_before_month y m d i is lt)) in
    let of_month : month_of day ≡ m = rw of_year of_begun in
    let of_day : day_of_month day ≡ d = rw (of_year, of_begun) (omega (arith, ints)) in
    (of_year, of_month, of_day)

-- hours, minutes and seconds of a second of a day
clock_is : (second : ℕ) → second < 86_400 → (second / 3600 < 24) × (second / 60 % 60 < 60) × (second % 60 < 60) × (second / 3600 * 3600 + second / 60 % 60 * 60 + second % 60 ≡ second)
clock_is second h = (omega arith, omega arith, omega arith, omega arith)

pub second_at-lt : (t : ℤ) → second_at t < 86_400
second_at-lt (pos a) = omega arith
second_at-lt (negsuc a) = omega arith

whole : (year : ℤ) → pos 1 ≤ℤ year → year ≡ pos (unsigned_abs year)
whole (pos n) h = refl
whole (negsuc n) h = absurd (omega (arith, ints))

-- the civil time of a day of the years 1 to 9999
pub on_day : (day : ℤ) (second : ℕ) → IsSupportedDay day → IsOnDay day (civil_of day second)
on_day day second supported =
    let h = date_exists day in
    let is_year = supported_year h.year h.month h.day h.is_date (subst IsSupportedDay (sym h.number) supported) in
    let year = unsigned_abs h.year in
    let whole_year = whole h.year is_year.0 in
    let is = rw whole_year at h.is_date in
    let number = rw whole_year at h.number in
    let found = date_of_day year h.month h.day day (omega (arith, ints, whole_year, is_year.0)) (omega (arith, ints, whole_year, is_year.1)) is number in
    let P : ℕ → ℕ → ℕ → Type 0 = λ y m d. IsDate (pos y) m d × (day_number (pos y) m d ≡ day) in
    subst (λ (y : ℕ). P y (month_of day) (day_of_month day)) (sym found.0)
    (subst (λ (m : ℕ). P year m (day_of_month day)) (sym found.1) (subst (λ (d : ℕ). P year h.month d) (sym found.2) (is, number)))

pub local_time_is : (t : ℤ) → IsSupportedDay (day_at t) → IsOnDay (day_at t) (local_time t) × IsAtSecond (second_at t) (local_time t)
unfolding local_time
local_time_is t supported = (on_day (day_at t) (second_at t) supported, clock_is (second_at t) (second_at-lt t))
