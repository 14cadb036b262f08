-- In years of one kind an edge comes as many seconds after the start of the year.
use Rattle.std.proofs.Common.{◌≡◌, ℕ, zero, suc, ◌+◌, ◌-◌, ◌%◌, ◌<◌, ◌≤◌, Bool, true, false, List, length, get_or, map, refl, sym, ap, ◌∙◌, arith, ℤ, pos, ◌+ℤ◌, ◌-ℤ◌, ◌*ℤ◌, ◌<ℤ◌, ◌≤ℤ◌}
use Rattle.std.specs.Prelude.{◌==◌, ◌&&◌, nat_le, int_le, int_lt, if◌then◌else◌}
use Rattle.std.specs.List.{list_all, range_with_len}
use Rattle.std.proofs.lemmas.Int.{ints}
use Rattle.std.proofs.lemmas.List.{get_or-map}
use Rattle.std.proofs.lemmas.List.Folds.{list_all_at}
use Rattle.std.proofs.lemmas.List.FromFn.{get_or-range_with_len}
use borrow.Author.Differences.{le-true, lt-true}
use Rattle.zic_calendar.specs.declared.day_form.On.TheVariants.{Last, After}
use Rattle.zic_calendar.specs.Calendar.{is_leap_year, month_length, days_in_month, days_of_months, days_of_years, days_from_1970, day_number}
use Rattle.zic_calendar.specs.DayForm.{form_day, week_start}
use Rattle.zic_calendar.specs.Weekday.{weekday_of, first_on_or_after, last_on_or_before}
use Rattle.zic_calendar.proofs.DateLemmas.{days_of_months-zero}
use Rattle.zic_calendar.proofs.WeekdayLemmas.{IsWeekday-weekday_of, weekday_of-add}
use Rattle.zic_posix.specs.declared.footer.DayRule.{DayRule}
use Rattle.zic_posix.specs.declared.footer.DayRule.TheVariants.{J, N, M}
use Rattle.zic_posix.specs.declared.footer.Edge.{Edge}
use Rattle.zic_posix.specs.declared.years.TheConstants.{YEARS_OF_KINDS}
use Rattle.zic_posix.specs.Grammar.{IsDay, IsEdge}
use Rattle.zic_posix.specs.Laws.{year_second}
use Rattle.zic_posix.specs.Meaning.{day_in}
use Rattle.zic_posix.specs.code.State.{instant_in}
use Rattle.zic_posix.specs.code.Inside.{is_inside, AreInside}
use Rattle.zic_posix.specs.code.Years.{kind_of, AreEdgeSeconds}

-- ---- the kind of a year

-- two years begin on one weekday, and both have a 29 February or neither
pub record IsSameKind (a b : ℤ) : Type 0 where
  pub leap : is_leap_year a ≡ is_leap_year b
  pub weekday : weekday_of (day_number a 1 1) ≡ weekday_of (day_number b 1 1)

apart : (a b : Bool) (v w : ℕ) → v ≤ 6 → w ≤ 6 → (if a then 7 else 0) + v ≡ (if b then 7 else 0) + w → (a ≡ b) × (v ≡ w)
apart true true v w low high e = (refl, omega (arith, e))
apart true false v w low high e = absurd (omega (arith, e, low, high))
apart false true v w low high e = absurd (omega (arith, e, low, high))
apart false false v w low high e = (refl, omega (arith, e))

same_kind : (a b : ℤ) → kind_of a ≡ kind_of b → IsSameKind a b
same_kind a b e =
    let both = apart (is_leap_year a) (is_leap_year b) (weekday_of (day_number a 1 1)) (weekday_of (day_number b 1 1))
    (IsWeekday-weekday_of (day_number a 1 1)) (IsWeekday-weekday_of (day_number b 1 1)) e in
    record { leap = both.0; weekday = both.1 }

below : (leap : Bool) (weekday : ℕ) → weekday ≤ 6 → (if leap then 7 else 0) + weekday < 14
below true weekday known = omega (arith, known)
below false weekday known = omega (arith, known)

pub kind_known : (year : ℤ) → kind_of year < 14
kind_known year = below (is_leap_year year) (weekday_of (day_number year 1 1)) (IsWeekday-weekday_of (day_number year 1 1))

-- ---- days of years of one kind

module _ (a b : ℤ) (same : IsSameKind a b) where
  months_same : (n : ℕ) → days_of_months a n ≡ days_of_months b n
  unfolding days_of_months
  months_same zero = refl
  months_same (suc n) =
      let last : days_in_month a (suc n) ≡ days_in_month b (suc n) = ap (λ (leap : Bool). month_length leap (suc n)) same.leap in
      omega (arith, months_same n, last)

  -- a date is as many days after 1 January
  number_same : (m d : ℕ) → day_number a m d -ℤ day_number a 1 1 ≡ day_number b m d -ℤ day_number b 1 1
  number_same m d = omega (arith, ints, months_same (m - 1), days_of_months-zero a, days_of_months-zero b)

  -- and on the same weekday
  weekday_same : (m d : ℕ) → 1 ≤ d → weekday_of (day_number a m d) ≡ weekday_of (day_number b m d)
  weekday_same m d some =
      let k = days_of_months a (m - 1) + d - 1 in
      let first = weekday_of-add (day_number a 1 1) (day_number a m d) k (omega (arith, ints, days_of_months-zero a)) in
      let second = weekday_of-add (day_number b 1 1) (day_number b m d) k (omega (arith, ints, days_of_months-zero b, months_same (m - 1))) in
      first ∙ ap (λ (w : ℕ). (w + k) % 7) same.weekday ∙ sym second

forward : (w : ℕ) (x y : ℤ) (p q : ℕ) → p ≡ q → (x +ℤ pos ((w + 7 - p) % 7)) -ℤ x ≡ (y +ℤ pos ((w + 7 - q) % 7)) -ℤ y
forward w x y p q e = rw e (omega (arith, ints))

back : (w : ℕ) (x y : ℤ) (p q : ℕ) → p ≡ q → (x -ℤ pos ((p + 7 - w) % 7)) -ℤ x ≡ (y -ℤ pos ((q + 7 - w) % 7)) -ℤ y
back w x y p q e = rw e (omega (arith, ints))

first_same : (w : ℕ) (x y : ℤ) → weekday_of x ≡ weekday_of y → first_on_or_after w x -ℤ x ≡ first_on_or_after w y -ℤ y
unfolding first_on_or_after
first_same w x y e = forward w x y (weekday_of x) (weekday_of y) e

last_same : (w : ℕ) (x y : ℤ) → weekday_of x ≡ weekday_of y → last_on_or_before w x -ℤ x ≡ last_on_or_before w y -ℤ y
unfolding last_on_or_before
last_same w x y e = back w x y (weekday_of x) (weekday_of y) e

joined : (x first y second a b : ℤ) → x -ℤ first ≡ y -ℤ second → first -ℤ a ≡ second -ℤ b → x -ℤ a ≡ y -ℤ b
joined x first y second a b e h = omega (arith, ints)

some_days : (leap : Bool) (m : ℕ) → 1 ≤ month_length leap m
some_days leap m = grind arith

module _ (a b : ℤ) (same : IsSameKind a b) where
  last_week_same : (m w : ℕ) → form_day a m (Last w) -ℤ day_number a 1 1 ≡ form_day b m (Last w) -ℤ day_number b 1 1
  unfolding form_day
  last_week_same m w =
      let length : days_in_month a m ≡ days_in_month b m = ap (λ (leap : Bool). month_length leap m) same.leap in
      let last = last_same w (day_number a m (days_in_month b m)) (day_number b m (days_in_month b m))
      (weekday_same a b same m (days_in_month b m) (some_days (is_leap_year b) m)) in
      rw length (joined (last_on_or_before w (day_number a m (days_in_month b m))) (day_number a m (days_in_month b m))
      (last_on_or_before w (day_number b m (days_in_month b m))) (day_number b m (days_in_month b m)) (day_number a 1 1) (day_number b 1 1)
      last (number_same a b same m (days_in_month b m)))

  week_same : (m week w : ℕ) → 1 ≤ week → form_day a m (After w (week_start week)) -ℤ day_number a 1 1 ≡ form_day b m (After w (week_start week)) -ℤ day_number b 1 1
  unfolding form_day
  week_same m week w some =
      let day = week_start week in
      let first = first_same w (day_number a m day) (day_number b m day) (weekday_same a b same m day (omega (arith, some))) in
      joined (first_on_or_after w (day_number a m day)) (day_number a m day) (first_on_or_after w (day_number b m day)) (day_number b m day)
      (day_number a 1 1) (day_number b 1 1) first (number_same a b same m day)

  -- a day rule names the same day of both years
  day_same : (d : DayRule) → IsDay d → day_in a d -ℤ day_number a 1 1 ≡ day_in b d -ℤ day_number b 1 1
  day_same (J n) h =
      elim (nat_le n 59) as (λ t. (if t then day_number a 1 n else day_number a 3 (n - 59)) -ℤ day_number a 1 1
      ≡ (if t then day_number b 1 n else day_number b 3 (n - 59)) -ℤ day_number b 1 1) [
        | true ↦ number_same a b same 1 n
        | false ↦ number_same a b same 3 (n - 59)
      ]
  day_same (N n) h = number_same a b same 1 (n + 1)
  day_same (M m week w) h =
      elim (week == 5) as (λ t. form_day a m (if t then Last w else After w (week_start week)) -ℤ day_number a 1 1
      ≡ form_day b m (if t then Last w else After w (week_start week)) -ℤ day_number b 1 1) [
        | true ↦ last_week_same m w
        | false ↦ week_same m week w h.2
      ]

in_seconds : (x a y b time offset : ℤ) → x -ℤ a ≡ y -ℤ b → (((pos 86_400 *ℤ x) +ℤ time) -ℤ offset) -ℤ (pos 86_400 *ℤ a) ≡ (((pos 86_400 *ℤ y) +ℤ time) -ℤ offset) -ℤ (pos 86_400 *ℤ b)
in_seconds x a y b time offset e = omega (arith, ints)

-- ---- the years of the kinds

-- each is of its kind
kinds_are : map kind_of YEARS_OF_KINDS ≡ range_with_len 0 14
unfolding days_of_years days_from_1970 days_of_months weekday_of
kinds_are = refl

year_kind : (k : ℕ) → k < 14 → kind_of (get_or YEARS_OF_KINDS k (pos 0)) ≡ k
year_kind k within =
    let listed = get_or-map kind_of YEARS_OF_KINDS k (pos 0) 0 within in
    let number = get_or-range_with_len 0 14 k 0 within in
    let same = ap (λ (ks : List ℕ). get_or ks k 0) kinds_are in
    omega (arith, listed, number, same)

both : (a b : Bool) → (a && b) ≡ true → (a ≡ true) × (b ≡ true)
both true true e = (refl, refl)
both true false e = absurd cc
both false b e = absurd cc

passes : (p : ℤ → Bool) (xs : List ℤ) (k : ℕ) (b : Bool) → p (get_or xs k (pos 0)) ≡ b → k < length xs → list_all p xs ≡ true → p (get_or xs k (pos 0)) ≡ true
passes p xs k true e within all = e
passes p xs k false e within all = let none = list_all_at p xs k (pos 0) within e in absurd cc

-- and near the first 400 years from 1970 on
abbrev is_near : ℤ → Bool
is_near year = int_le (pos 1970) year && int_le year (pos 1996)

pub year_near : (k : ℕ) → k < 14 → (pos 1970 ≤ℤ get_or YEARS_OF_KINDS k (pos 0)) × (get_or YEARS_OF_KINDS k (pos 0) ≤ℤ pos 1996)
year_near k within =
    let year = get_or YEARS_OF_KINDS k (pos 0) in
    let tests = both (int_le (pos 1970) year) (int_le year (pos 1996)) (passes is_near YEARS_OF_KINDS k (is_near year) refl within refl) in
    (omega (arith, ints, le-true (pos 1970) year tests.0), omega (arith, ints, le-true year (pos 1996) tests.1))

-- ---- an edge in a year, by its kind

pub instant_by_kind : (edge : Edge) (offset : ℤ) (seconds : List ℤ) (year : ℤ) → IsEdge edge → AreEdgeSeconds edge offset seconds
    → year_second year +ℤ get_or seconds (kind_of year) (pos 0) ≡ instant_in edge offset year
instant_by_kind edge offset seconds year is are =
    let kind = kind_of year in
    let chosen = get_or YEARS_OF_KINDS kind (pos 0) in
    let same = same_kind chosen year (year_kind kind (kind_known year)) in
    let at = are.each kind (kind_known year) in
    let moved = in_seconds (day_in chosen edge.day) (day_number chosen 1 1) (day_in year edge.day) (day_number year 1 1) edge.time offset
    (day_same chosen year same edge.day is.day) in
    omega (arith, ints, at, moved)

-- and inside it
pub inside_at : (seconds : List ℤ) (kind : ℕ) → AreInside seconds → kind < 14
    → (pos 0 ≤ℤ get_or seconds kind (pos 0)) × (get_or seconds kind (pos 0) <ℤ pos 31_536_000)
inside_at seconds kind are known =
    let second = get_or seconds kind (pos 0) in
    let count = are.count in
    let tests = both (int_le (pos 0) second) (int_lt second (pos 31_536_000))
    (passes is_inside seconds kind (is_inside second) refl (omega (arith, count, known)) are.inside) in
    (omega (arith, ints, le-true (pos 0) second tests.0), omega (arith, ints, lt-true second (pos 31_536_000) tests.1))
