-- The last of an edge's instants that isn't after an instant.
use Rattle.std.proofs.Common.{◌≡◌, ℕ, ◌*◌, ◌/◌, ◌≤◌, inl, refl, arith, ℤ, pos, negsuc, ◌+ℤ◌, ◌-ℤ◌, ◌*ℤ◌, ◌<ℤ◌, ◌≤ℤ◌, unsigned_abs}
use Rattle.std.proofs.lemmas.Int.{ints, by_lt_z}
use Rattle.zic_base.specs.declared.constants.TheConstants.{FARTHEST_FILE_OFFSET}
use Rattle.zic_calendar.specs.Calendar.{day_number, IsDate}
use Rattle.zic_calendar.proofs.YearLemmas.{year_start-later, year_start-1970}
use Rattle.zic_calendar.proofs.DateLemmas.{day_number-rises, day_number-period, days_of_months-zero, first_has, date_exists}
use Rattle.zic_posix.specs.declared.footer.Edge.{Edge}
use Rattle.zic_posix.specs.Grammar.{IsEdge}
use Rattle.zic_posix.specs.Laws.{year_second, IsInYear, IsLastEdge, HasLastNear}
use Rattle.zic_posix.specs.code.State.{instant_in}
use Rattle.zic_posix.proofs.Edges.{instant_in-near, instant_in-no_later, years_apart}

-- the last is that of the year before the first after t
pub last_of : (edge : Edge) (offset t year next : ℤ) → IsEdge edge → next ≡ year +ℤ pos 1 → instant_in edge offset year ≤ℤ t → t <ℤ instant_in edge offset next → IsLastEdge (instant_in edge offset) t year
last_of edge offset t year next is e here there =
    record {
      not_after = here;
      last = λ other h. by_lt_z year other
          (λ lt. absurd (omega (arith, ints, instant_in-no_later edge offset next other is (omega (arith, ints)))))
          (λ ge. instant_in-no_later edge offset other year is ge);
    }

-- the edge of the year before the last isn't after an instant of a year
pub early_edge : (edge : Edge) (offset t year early : ℤ) → IsEdge edge → unsigned_abs offset ≤ FARTHEST_FILE_OFFSET → year ≡ early +ℤ pos 2 → year_second year ≤ℤ t → instant_in edge offset early ≤ℤ t
early_edge edge offset t year early is near e from =
    omega (arith, ints, (instant_in-near edge offset early is near).to, years_apart (early +ℤ pos 1) year (omega (arith, ints)))

-- and that of the year after the next is after it
pub late_edge : (edge : Edge) (offset t year late : ℤ) → IsEdge edge → unsigned_abs offset ≤ FARTHEST_FILE_OFFSET → late ≡ year +ℤ pos 2 → t <ℤ year_second (year +ℤ pos 1) → t <ℤ instant_in edge offset late
late_edge edge offset t year late is near e to =
    omega (arith, ints, (instant_in-near edge offset late is near).from, years_apart (year +ℤ pos 1) late (omega (arith, ints)))

-- so the last is of a year near that year
pub last_near : (edge : Edge) (offset t year : ℤ) → IsEdge edge → unsigned_abs offset ≤ FARTHEST_FILE_OFFSET → IsInYear year t → HasLastNear (instant_in edge offset) t year
last_near edge offset t year is near here =
    let last = λ (y next : ℤ). last_of edge offset t y next is in
    by_lt_z t (instant_in edge offset (year +ℤ pos 1))
    (λ next. by_lt_z t (instant_in edge offset year)
    (λ this. by_lt_z t (instant_in edge offset (year -ℤ pos 1))
    (λ before. record { found = year -ℤ pos 2; from = omega (arith, ints); to = omega (arith, ints); is_last = last (year -ℤ pos 2) (year -ℤ pos 1) (omega (arith, ints)) (early_edge edge offset t year (year -ℤ pos 2) is near (omega (arith, ints)) here.from) before })
    (λ ge. record { found = year -ℤ pos 1; from = omega (arith, ints); to = omega (arith, ints); is_last = last (year -ℤ pos 1) year (omega (arith, ints)) ge this }))
    (λ ge. record { found = year; from = omega (arith, ints); to = omega (arith, ints); is_last = last year (year +ℤ pos 1) refl ge next }))
    (λ ge. record { found = year +ℤ pos 1; from = omega (arith, ints); to = omega (arith, ints); is_last = last (year +ℤ pos 1) (year +ℤ pos 2) (omega (arith, ints)) ge (late_edge edge offset t year (year +ℤ pos 2) is near refl here.to) })

-- ---- the year of an instant

scaled_no_later : (a b : ℤ) → a ≤ℤ b → (pos 86_400 *ℤ a) ≤ℤ (pos 86_400 *ℤ b)
scaled_no_later a b h = omega (arith, ints)

-- a date lies in its year
pub date_in_year : (y next : ℤ) (m d : ℕ) → next ≡ y +ℤ pos 1 → IsDate y m d → (day_number y 1 1 ≤ℤ day_number y m d) × (day_number y m d <ℤ day_number next 1 1)
date_in_year y next m d e is =
    let first = is.1.0 in (
      omega (arith, ints, days_of_months-zero y),
      day_number-rises y m d next 1 1 is (first_has next 1 (omega arith) (omega arith)) (inl (omega (arith, ints))),
    )

year_no_later : (y later : ℤ) → y ≤ℤ later → year_second y ≤ℤ year_second later
year_no_later y later h =
    by_lt_z y later
    (λ lt. scaled_no_later (day_number y 1 1) (day_number later 1 1) (omega (arith, ints, year_start-later y later lt, days_of_months-zero y, days_of_months-zero later)))
    (λ ge. let same : y ≡ later = omega (arith, ints) in rw same (omega (arith, ints)))

second_1970 : year_second (pos 1970) ≡ pos 0
second_1970 = omega (arith, ints, year_start-1970, days_of_months-zero (pos 1970))

cycle_of_days : (a b : ℤ) → b ≡ a +ℤ pos 146_097 → pos 86_400 *ℤ b ≡ (pos 86_400 *ℤ a) +ℤ pos (146_097 * 86_400)
cycle_of_days a b e = omega (arith, ints)

seconds_of_cycle : year_second (pos 2370) ≡ year_second (pos 1970) +ℤ pos (146_097 * 86_400)
seconds_of_cycle = cycle_of_days (day_number (pos 1970) 1 1) (day_number (pos 2370) 1 1) (day_number-period (pos 1970) (pos 2370) 1 1 (omega (arith, ints)))

-- 1 January 2371, of which it is only said that it isn't before 400 years and 365 days
second_2371 : pos (146_462 * 86_400) ≤ℤ year_second (pos 2371)
second_2371 =
    omega (arith, ints, second_1970, years_apart (pos 2370) (pos 2371) (omega (arith, ints)), seconds_of_cycle)

-- the day of a second
pub record IsOnDay (t day : ℤ) : Type 0 where
  pub from : (pos 86_400 *ℤ day) ≤ℤ t
  pub to : t <ℤ ((pos 86_400 *ℤ day) +ℤ pos 86_400)

day_of_second : (t : ℤ) → (day : ℤ) × IsOnDay t day
day_of_second (pos n) = (pos (n / 86_400), record { from = omega (arith, ints); to = omega (arith, ints) })
day_of_second (negsuc n) = (negsuc (n / 86_400), record { from = omega (arith, ints); to = omega (arith, ints) })

pub second_in_year : (t day first next : ℤ) → IsOnDay t day → first ≤ℤ day → day <ℤ next → ((pos 86_400 *ℤ first) ≤ℤ t) × (t <ℤ (pos 86_400 *ℤ next))
second_in_year t day first next on low high = (omega (arith, ints, on.from), omega (arith, ints, on.to))

-- each instant is of some year
pub year_exists : (t : ℤ) → (year : ℤ) × IsInYear year t
year_exists t =
    let d = day_of_second t in
    let date = date_exists d.0 in
    let bounds = date_in_year date.year (date.year +ℤ pos 1) date.month date.day refl date.is_date in
    let number = date.number in
    let both = second_in_year t d.0 (day_number date.year 1 1) (day_number (date.year +ℤ pos 1) 1 1) d.1 (omega (arith, ints, bounds.0)) (omega (arith, ints, bounds.1)) in
    (date.year, record { from = both.0; to = both.1 })

-- ---- the latest year whose edges may have come

-- where t is 10 days before an instant of a year, the edge of the year after it is still to come
pub edge_to_come : (edge : Edge) (offset t year next : ℤ) → IsEdge edge → unsigned_abs offset ≤ FARTHEST_FILE_OFFSET → next ≡ year +ℤ pos 1 → IsInYear year (t +ℤ pos (10 * 86_400)) → t <ℤ instant_in edge offset next
edge_to_come edge offset t year next is near e here =
    rw e (omega (arith, ints, here.to, (instant_in-near edge offset (year +ℤ pos 1) is near).from))

-- and that of two years before has come
pub edge_gone : (edge : Edge) (offset t year early : ℤ) → IsEdge edge → unsigned_abs offset ≤ FARTHEST_FILE_OFFSET → year ≡ early +ℤ pos 2 → IsInYear year (t +ℤ pos (10 * 86_400)) → instant_in edge offset early ≤ℤ t
edge_gone edge offset t year early is near e here =
    omega (arith, ints, here.from, (instant_in-near edge offset early is near).to, years_apart (early +ℤ pos 1) year (omega (arith, ints)))

-- the instants of the first 400 years from 1970 on, and 10 days more, are of these years, or of the next
pub year_of_cycle : (t year : ℤ) → pos 0 ≤ℤ t → t <ℤ pos (146_108 * 86_400) → IsInYear year t → (pos 1970 ≤ℤ year) × (year ≤ℤ pos 2370)
year_of_cycle t year from to here = (
  by_lt_z year (pos 1970)
      (λ lt. absurd (omega (arith, ints, here.to, year_no_later (year +ℤ pos 1) (pos 1970) (omega (arith, ints)), second_1970)))
      (λ ge. ge),
  by_lt_z (pos 2370) year
      (λ lt. absurd (omega (arith, ints, here.from, year_no_later (pos 2371) year (omega (arith, ints)), second_2371)))
      (λ ge. ge),
)
