-- Days of years that begin on 1 March, as dates of the calendar.
use Rattle.std.proofs.Common.{◌≡◌, ℕ, suc, ◌+◌, ◌-◌, ◌/◌, ◌%◌, ◌<◌, ◌≤◌, [], ◌∷◌, ◌++◌, ap₂, refl, sym, ◌∙◌, arith, pos, ◌-ℤ◌}
use Rattle.std.proofs.lemmas.Int.{ints}
use Rattle.std.proofs.lemmas.Bool.Decides.{nat_tests}
use Rattle.jiff_core.specs.Calendar.{day_count}
use Rattle.jiff_core.specs.March.{march_days}
use Rattle.jiff_core.proofs.CalendarLemmas.{days_from_civil-day_count}
use Rattle.jiff_core.proofs.MarchLemmas.{leap_day, march_days-suc, day_count-early, day_count-late, month_and_day, day_in_month, day_in_early_month}
use Rattle.jiff_core.proofs.SignedLemmas.{signed_arith}
use Rattle.zic_calendar.specs.declared.civil_time.Civil.{Civil}
use Rattle.zic_calendar.specs.Calendar.{IsDate, IsSupportedDay, IsSupportedYear, day_number}
use Rattle.zic_calendar.proofs.DateLemmas.{day_number-kit, supported_year}
use Rattle.zic_base.specs.Digits.{two_digits}
use Rattle.zic_row_text.specs.code.Cached.{cached_date}
use Rattle.zic_row_text.specs.code.March.{month_from_march, march_month, march_day_of_month, march_text}
use Rattle.zic_row_text.proofs.RowTexts.{cached_date-octets}

-- The year, the month and the day of the month are those of the day, which is counted from 0001-01-01.
record IsDateOf (day y m d : ℕ) : Type 0 where
  is_date : IsDate (pos y) m d
  number : day_number (pos y) m d ≡ pos day -ℤ pos 719_162
  year : IsSupportedYear (pos y)

-- years from -10000 on, which are 25 times 400 years before the year 0
march_days-shift : (n : ℕ) → march_days (10_000 + n) ≡ march_days n + 3_652_425
march_days-shift n = omega arith

-- a date by its count
counted : (day y m d : ℕ) → day < 3_652_059 → IsDate (pos y) m d → day_count (pos y) m d ≡ day + 3_652_791 → IsDateOf day y m d
counted day y m d low is count =
    let number : day_number (pos y) m d ≡ pos day -ℤ pos 719_162 =
    omega (arith, signed_arith, day_number-kit (pos y) m d (omega (arith, signed_arith)) is.1.0, days_from_civil-day_count (pos y) m d, count) in
    let supported : IsSupportedDay (day_number (pos y) m d) = rw number (omega (arith, ints), omega (arith, ints)) in
    record { is_date = is; number = number; year = supported_year (pos y) m d is supported }

-- from March to December
late_date : (day year n : ℕ) → day < 3_652_059 → march_days year + n ≡ day + 306 → n < 306 → IsDateOf day year (month_from_march n) (march_day_of_month n)
late_date day year n low at h =
    let m = month_from_march n in
    let d = march_day_of_month n in
    let is : IsDate (pos year) m d = ((omega arith, omega arith), (omega arith, day_in_month (pos year) n (omega arith))) in
    let count = day_count-late (pos year) (10_000 + year) m d (omega (arith, signed_arith)) (omega arith) (omega arith) (omega arith) in
    counted day year m d low is (omega (arith, count, at, march_days-shift year, month_and_day n (omega arith)))

-- January and February
early_date : (day year n : ℕ) → day < 3_652_059 → march_days year + n ≡ day + 306 → day + 306 < march_days (year + 1) → n < 366 → 306 ≤ n
    → IsDateOf day (year + 1) (month_from_march n - 12) (march_day_of_month n)
early_date day year n low at within h late =
    let m = month_from_march n - 12 in
    let d = march_day_of_month n in
    let y = year + 1 in
    let whole : m + 12 ≡ month_from_march n = omega arith in
    let after : suc year ≡ y = omega arith in
    let next : march_days y ≡ march_days year + 365 + leap_day (pos y) = rw after at (march_days-suc year) in
    let is : IsDate (pos y) m d = ((omega arith, omega arith), (omega arith, day_in_early_month (pos y) n (omega arith) (omega (arith, at, within, next)))) in
    let count = day_count-early (pos y) (10_000 + year) m d (omega (arith, signed_arith)) (omega arith) (omega arith) (omega arith) in
    counted day y m d low is (omega (arith, rw whole at count, at, march_days-shift year, month_and_day n h))

-- its text
dated : (day y m d n : ℕ) → day < 3_652_059 → IsDateOf day y m d → march_month n ≡ m → march_day_of_month n ≡ d
    → cached_date day ≡ two_digits (y / 100) ++ (two_digits (y % 100) ++ march_text n)
unfolding march_text
dated day y m d n low is month day_of_month =
    let civil : Civil = record { year = pos y; month = m; day = d; hour = 0; minute = 0; second = 0 } in
    cached_date-octets day (pos day -ℤ pos 719_162) civil y low refl (is.is_date, is.number) is.year refl
    ∙ ap₂ (λ (a b : ℕ). two_digits (y / 100) ++ (two_digits (y % 100) ++ 45 ∷ (two_digits a ++ 45 ∷ (two_digits b ++ 84 ∷ [])))) (sym month) (sym day_of_month)

pub dated_late : (day year n y : ℕ) → day < 3_652_059 → march_days year + n ≡ day + 306 → n < 306 → y ≡ year
    → cached_date day ≡ two_digits (y / 100) ++ (two_digits (y % 100) ++ march_text n)
dated_late day year n y low at h same =
    let month : march_month n ≡ month_from_march n = grind (arith, nat_tests) in
    rw same (dated day year (month_from_march n) (march_day_of_month n) n low (late_date day year n low at h) month refl)

pub dated_early : (day year n y : ℕ) → day < 3_652_059 → march_days year + n ≡ day + 306 → day + 306 < march_days (year + 1) → n < 366 → 306 ≤ n → y ≡ year + 1
    → cached_date day ≡ two_digits (y / 100) ++ (two_digits (y % 100) ++ march_text n)
dated_early day year n y low at within h late same =
    let month : march_month n ≡ month_from_march n - 12 = grind (arith, nat_tests) in
    rw same (dated day (year + 1) (month_from_march n - 12) (march_day_of_month n) n low (early_date day year n low at within h late) month refl)
