-- Day numbers and dates: their order, and that each day has exactly one date.
use Rattle.std.proofs.Common.{◌≡◌, ℕ, zero, suc, ◌+◌, ◌-◌, ◌<◌, ◌≤◌, ◌⊎◌, inl, inr, refl, sym, ◌∙◌, arith, ℤ, pos, neg_ℤ, ◌+ℤ◌, ◌-ℤ◌, ◌<ℤ◌, ◌≤ℤ◌}
use Rattle.std.proofs.lemmas.Bool.{cases_order, cases_lt}
use Rattle.std.proofs.lemmas.Int.{by_lt_z}
use Rattle.jiff_core.specs.Calendar.{days_from_civil, days_of_months as kit_days_of_months}
use Rattle.jiff_core.proofs.SignedLemmas.{signed_arith}
use Rattle.jiff_core.proofs.CalendarLemmas.{days_from_civil-day_count, day_count-epoch, day_count-next_year, day_count-day_of_year, day_of_year_before, days_of_months_all, days_in_month_bounds}
use Rattle.jiff_core.proofs.MarchLemmas.{day_count-early}
use Rattle.jiff_core.proofs.DateLemmas.{days_from_civil-max}
use borrow.Author.Differences.{up, down}
use Rattle.zic_calendar.specs.Calendar.{days_in_month, days_in_year, days_of_months, year_start, day_number, IsDate, IsEarlier, HasDate, IsSupportedDay, IsSupportedYear}
use Rattle.zic_calendar.proofs.YearLemmas.{int_induction, is_leap_year-period, year_start-next, year_start-later, year_start-period, year_start-1970}

-- the months' days are the kit's
pub days_of_months-kit : (y : ℤ) (n : ℕ) → days_of_months y n ≡ kit_days_of_months y n
unfolding days_of_months kit_days_of_months
days_of_months-kit y zero = refl
days_of_months-kit y (suc n) = rw (days_of_months-kit y n)

-- a date lies within its year
pub day_within_year : (y : ℤ) (m d : ℕ) → IsDate y m d → days_of_months y (m - 1) + d ≤ days_in_year y
day_within_year y m d h =
    rw days_of_months-kit (omega (arith, day_of_year_before y m d 12 h.0.0 h.1.1 h.0.1, days_of_months_all y))

-- and before the months after its own
pub day_before_month : (y : ℤ) (m d later : ℕ) → IsDate y m d → m < later → days_of_months y (m - 1) + d ≤ days_of_months y (later - 1)
day_before_month y m d later h lt =
    rw (days_of_months-kit y (m - 1), days_of_months-kit y (later - 1)) (day_of_year_before y m d (later - 1) h.0.0 h.1.1 (omega arith))

-- day numbers rise strictly with the date
pub day_number-rises : (y : ℤ) (m d : ℕ) (y₂ : ℤ) (m₂ d₂ : ℕ) → IsDate y m d → IsDate y₂ m₂ d₂ → IsEarlier y m d y₂ m₂ d₂ → day_number y m d <ℤ day_number y₂ m₂ d₂
day_number-rises y m d y₂ m₂ d₂ h h₂ (inl year) =
    let first = h₂.1.0 in
    omega (arith, signed_arith, day_within_year y m d h, year_start-later y y₂ year)
day_number-rises y m d y₂ m₂ d₂ h h₂ (inr (year, inl month)) =
    let first = h₂.1.0 in
    rw (← year) (omega (arith, signed_arith, day_before_month y m d m₂ h month))
day_number-rises y m d y₂ m₂ d₂ h h₂ (inr (year, inr day)) =
    rw (← year, ← day.0) (let lt = day.1 in omega (arith, signed_arith))

-- of two dates one is earlier, or they are the same
pub cases_date : (y : ℤ) (m d : ℕ) (y₂ : ℤ) (m₂ d₂ : ℕ) → IsEarlier y m d y₂ m₂ d₂ ⊎ (IsEarlier y₂ m₂ d₂ y m d ⊎ ((y ≡ y₂) × (m ≡ m₂) × (d ≡ d₂)))
cases_date y m d y₂ m₂ d₂ =
    by_lt_z y y₂ (λ lt. inl (inl lt)) (λ ge. by_lt_z y₂ y (λ gt. inr (inl (inl gt)))
    (λ le. let year : y ≡ y₂ = omega (arith, signed_arith) in
    elim (cases_order m m₂) [
      | inr (inl lt) ↦ inl (inr (year, inl lt))
      | inl month ↦ elim (cases_order d d₂) [
        | inr (inl lt) ↦ inl (inr (year, inr (month, lt)))
        | inl day ↦ inr (inr (year, month, day))
        | inr (inr gt) ↦ inr (inl (inr (sym year, inr (sym month, gt))))
      ]
      | inr (inr gt) ↦ inr (inl (inr (sym year, inl gt)))
    ]))

-- two dates with one day number are the same
pub day_number-injective : (y : ℤ) (m d : ℕ) (y₂ : ℤ) (m₂ d₂ : ℕ) → IsDate y m d → IsDate y₂ m₂ d₂ → day_number y m d ≡ day_number y₂ m₂ d₂ → (y ≡ y₂) × (m ≡ m₂) × (d ≡ d₂)
day_number-injective y m d y₂ m₂ d₂ h h₂ e =
    elim (cases_date y m d y₂ m₂ d₂) [
      | inl lt ↦ let rises = day_number-rises y m d y₂ m₂ d₂ h h₂ lt in absurd (omega (arith, signed_arith))
      | inr (inl gt) ↦ let rises = day_number-rises y₂ m₂ d₂ y m d h₂ h gt in absurd (omega (arith, signed_arith))
      | inr (inr same) ↦ same
    ]

-- the first of the next month follows the last of this one
pub day_number-next_month : (y : ℤ) (m : ℕ) → 1 ≤ m → day_number y (m + 1) 1 ≡ day_number y m (days_in_month y m) +ℤ pos 1
day_number-next_month y zero h = absurd (omega arith)
day_number-next_month y (suc m) h = unfold days_of_months in (let back : suc m + 1 - 1 ≡ suc m = omega arith in let same : suc m - 1 ≡ m = omega arith in rw (back, same) (omega (arith, signed_arith)))

pub days_of_months-zero : (y : ℤ) → days_of_months y 0 ≡ 0
unfolding days_of_months
days_of_months-zero y = refl

days_of_months-twelve : (y : ℤ) → days_of_months y 12 ≡ days_in_year y
days_of_months-twelve y = rw days_of_months-kit (days_of_months_all y)

-- and 1 January follows 31 December
pub day_number-next_year : (y next : ℤ) → next ≡ y +ℤ pos 1 → day_number next 1 1 ≡ day_number y 12 31 +ℤ pos 1
day_number-next_year y next e =
    let last = day_number-next_month y 12 (omega arith) in
    omega (arith, signed_arith, year_start-next y next e, days_of_months-zero next, days_of_months-twelve y)

january_has : (y : ℤ) → IsDate y 1 1
january_has y = ((omega arith, omega arith), (omega arith, omega arith))

december_has : (y : ℤ) → IsDate y 12 31
december_has y = ((omega arith, omega arith), (omega arith, omega arith))

pub first_has : (y : ℤ) (m : ℕ) → 1 ≤ m → m ≤ 12 → IsDate y m 1
first_has y m low high = let long = days_in_month_bounds y m in ((low, high), (omega arith, omega arith))

pub last_has : (y : ℤ) (m : ℕ) → 1 ≤ m → m ≤ 12 → IsDate y m (days_in_month y m)
last_has y m low high = let long = days_in_month_bounds y m in ((low, high), (omega arith, omega arith))

-- the day after a date has a date
date_after : (n next : ℤ) → next ≡ n +ℤ pos 1 → HasDate n → HasDate next
date_after n next e h =
    let y = h.year in
    let m = h.month in
    let d = h.day in
    let in_month = h.is_date.0 in
    let in_day = h.is_date.1 in
    let number = h.number in
    elim (cases_lt d (days_in_month y m)) [
      | inl lt ↦ record { year = y; month = m; day = d + 1; is_date = ((in_month.0, in_month.1), (omega arith, omega arith)); number = omega (arith, signed_arith) }
      | inr ge ↦ let last : d ≡ days_in_month y m = omega arith in
          let at_last : day_number y m (days_in_month y m) ≡ n = rw (← last) number in
          elim (cases_lt m 12) [
            | inl lt ↦ record { year = y; month = m + 1; day = 1; is_date = first_has y (m + 1) (omega arith) (omega arith); number = omega (arith, signed_arith, day_number-next_month y m in_month.0) }
            | inr ge₂ ↦ let twelve : m ≡ 12 = omega arith in
                record { year = y +ℤ pos 1; month = 1; day = 1; is_date = january_has (y +ℤ pos 1); number = omega (arith, signed_arith, day_number-next_year y (y +ℤ pos 1) refl, rw twelve at at_last) }
          ]
    ]

-- and so has the day before it
date_before : (n next : ℤ) → next ≡ n +ℤ pos 1 → HasDate next → HasDate n
date_before n next e h =
    let y = h.year in
    let m = h.month in
    let d = h.day in
    let in_month = h.is_date.0 in
    let in_day = h.is_date.1 in
    let number = h.number in
    elim (cases_lt 1 d) [
      | inl lt ↦ record { year = y; month = m; day = d - 1; is_date = ((in_month.0, in_month.1), (omega arith, omega arith)); number = omega (arith, signed_arith) }
      | inr le ↦ let first : d ≡ 1 = omega arith in
          let at_first : day_number y m 1 ≡ next = rw first at number in
          elim (cases_lt 1 m) [
            | inl lt ↦ let same : m - 1 + 1 ≡ m = omega arith in
                record { year = y; month = m - 1; day = days_in_month y (m - 1); is_date = last_has y (m - 1) (omega arith) (omega arith); number = omega (arith, signed_arith, rw same at (day_number-next_month y (m - 1) (omega arith))) }
            | inr le₂ ↦ let one : m ≡ 1 = omega arith in
                let same : y -ℤ pos 1 +ℤ pos 1 ≡ y = omega (arith, signed_arith) in
                record { year = y -ℤ pos 1; month = 12; day = 31; is_date = december_has (y -ℤ pos 1); number = omega (arith, signed_arith, rw same at (day_number-next_year (y -ℤ pos 1) (y -ℤ pos 1 +ℤ pos 1) refl), rw one at at_first) }
          ]
    ]

day_zero : HasDate (pos 0)
day_zero = record { year = pos 1970; month = 1; day = 1; is_date = january_has (pos 1970); number = omega (arith, signed_arith, year_start-1970, days_of_months-zero (pos 1970)) }

-- each day has a date
pub date_exists : (n : ℤ) → HasDate n
date_exists = int_induction HasDate day_zero (λ z next e h. date_after z next e h) (λ z next e h. date_before z next e h)

-- the months before a month have the same days in the year 400 years later
days_of_months-period : (y later : ℤ) (n : ℕ) → later ≡ y +ℤ pos 400 → days_of_months later n ≡ days_of_months y n
unfolding days_of_months
days_of_months-period y later zero e = refl
days_of_months-period y later (suc n) e = rw (days_of_months-period y later n e, is_leap_year-period y later e)

-- 400 years are 146,097 days
pub day_number-period : (y later : ℤ) (m d : ℕ) → later ≡ y +ℤ pos 400 → day_number later m d ≡ day_number y m d +ℤ pos 146097
day_number-period y later m d e =
    omega (arith, signed_arith, year_start-period y later e, days_of_months-period y later (m - 1) e)

-- from the year -10000 on, where the kit's count begins, the two counts keep their distance
same_distance : (n : ℕ) (y : ℤ) → y ≡ pos n -ℤ pos 10000 → year_start y -ℤ days_from_civil y 1 1 ≡ year_start (neg_ℤ (pos 10000)) -ℤ days_from_civil (neg_ℤ (pos 10000)) 1 1
same_distance zero y e = let first : y ≡ neg_ℤ (pos 10000) = omega (arith, signed_arith) in rw first
same_distance (suc n) y e =
    let before = pos n -ℤ pos 10000 in
    omega (arith, signed_arith, same_distance n before refl, year_start-next before y (omega (arith, signed_arith)), days_from_civil-day_count, day_count-next_year before y (omega (arith, signed_arith)) (omega (arith, signed_arith)))

-- which is 0, as 1970 shows
year_start-kit : (y : ℤ) → neg_ℤ (pos 10000) ≤ℤ y → year_start y ≡ days_from_civil y 1 1
year_start-kit y low =
    omega (arith, signed_arith, same_distance (up y + 10000 - down y) y (omega (arith, signed_arith)), same_distance 11970 (pos 1970) refl, year_start-1970, days_from_civil-day_count (pos 1970) 1 1, day_count-epoch)

-- day numbers are the kit's, from the year -10000 on
pub day_number-kit : (y : ℤ) (m d : ℕ) → neg_ℤ (pos 10000) ≤ℤ y → 1 ≤ d → day_number y m d ≡ days_from_civil y m d
day_number-kit y m d low first =
    omega (arith, signed_arith, year_start-kit y low, days_of_months-kit y (m - 1), days_from_civil-day_count y m d, days_from_civil-day_count y 1 1, day_count-day_of_year y m d first)

first_supported : day_number (pos 1) 1 1 ≡ neg_ℤ (pos 719_162)
first_supported =
    omega (arith, signed_arith, day_number-kit (pos 1) 1 1 (omega (arith, signed_arith)) (omega arith), days_from_civil-day_count (pos 1) 1 1, day_count-early (pos 1) 10000 1 1 refl (omega arith) (omega arith) (omega arith))

last_supported : day_number (pos 9999) 12 31 ≡ pos 2_932_896
last_supported = day_number-kit (pos 9999) 12 31 (omega (arith, signed_arith)) (omega arith) ∙ days_from_civil-max

-- the days from 0001-01-01 to 9999-12-31 are those of the years from 1 to 9999
pub supported_year : (y : ℤ) (m d : ℕ) → IsDate y m d → IsSupportedDay (day_number y m d) → IsSupportedYear y
supported_year y m d h day = (
  by_lt_z y (pos 1)
      (λ lt. let rises = day_number-rises y m d (pos 1) 1 1 h (january_has (pos 1)) (inl lt) in
      absurd (omega (arith, signed_arith, first_supported)))
      (λ ge. ge),
  by_lt_z (pos 9999) y
      (λ lt. let rises = day_number-rises (pos 9999) 12 31 y m d (december_has (pos 9999)) h (inl lt) in
      absurd (omega (arith, signed_arith, last_supported)))
      (λ ge. ge),
)

year_start-1 : year_start (pos 1) ≡ neg_ℤ (pos 719_162)
year_start-1 = omega (arith, signed_arith, first_supported, days_of_months-zero (pos 1))

year_start-10000 : year_start (pos 10000) ≡ pos 2_932_897
year_start-10000 =
    omega (arith, signed_arith, last_supported, day_number-next_year (pos 9999) (pos 10000) refl, days_of_months-zero (pos 10000))

year_start_low : (y : ℤ) → pos 1 ≤ℤ y → neg_ℤ (pos 719_162) ≤ℤ year_start y
year_start_low y low =
    by_lt_z (pos 1) y
    (λ lt. omega (arith, signed_arith, year_start-later (pos 1) y lt, year_start-1))
    (λ le. let one : y ≡ pos 1 = omega (arith, signed_arith) in rw one (omega (arith, signed_arith, year_start-1)))

-- and the dates of those years are among those days
pub supported_day : (y : ℤ) (m d : ℕ) → IsDate y m d → IsSupportedYear y → IsSupportedDay (day_number y m d)
supported_day y m d h year =
    let first = h.1.0 in
    let end = year_start-later y (pos 10000) (omega (arith, signed_arith)) in
    omega (arith, signed_arith, year_start_low y year.0, end, year_start-10000, day_within_year y m d h)
