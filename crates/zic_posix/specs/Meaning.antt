-- The state that a POSIX TZ string means at every instant: POSIX.1, "Environment Variables", TZ; RFC 9636, 3.3.1. Each whole year,
-- also before 1970, has one start and one end. Own choices: an edge counts wherever it falls, also in another year than its own; where a start and
-- an end fall on one instant the start wins, so that `EST5EDT,0/0,J365/25` is daylight saving time for ever, as RFC 9636, 3.3.1, has it;
-- and day 365 of a common year, counted from 0, is 1 January of the next.
use Rattle.std.specs.Prelude.{◌≡◌, ℕ, ◌+◌, ◌-◌, nat_le, ◌==◌, if◌then◌else◌, ℤ, pos, ◌+ℤ◌, ◌-ℤ◌, ◌*ℤ◌, ◌<ℤ◌, ◌≤ℤ◌, true, false, ◌⊎◌, Option, Some, None, IsSomeAnd}
use Rattle.zic_base.specs.State.{Shown}
use Rattle.zic_calendar.specs.Calendar.{day_number}
use Rattle.zic_calendar.specs.DayForm.{form_day, week_start}
use Rattle.zic_calendar.specs.declared.day_form.On.{On}
use Rattle.zic_calendar.specs.declared.day_form.On.TheVariants.{Last, After}
use Rattle.zic_posix.specs.declared.footer.DayRule.{DayRule}
use Rattle.zic_posix.specs.declared.footer.DayRule.TheVariants.{J, N, M}
use Rattle.zic_posix.specs.declared.footer.Dst.{Dst}
use Rattle.zic_posix.specs.declared.footer.Edge.{Edge}
use Rattle.zic_posix.specs.declared.span.Instants.{Instants}
use Rattle.zic_posix.specs.Footer.{TzString}
use Rattle.zic_posix.specs.Instants.{Includes}

-- week 5 is the last such weekday of the month, and week w of 1 to 4 the first on or after day 7w - 6
abbrev pub week_form : ℕ → ℕ → On
week_form week weekday = if week == 5 then Last weekday else After weekday (week_start week)

-- The day number that a day names in a year. `Jn` counts 365 days from 1 in each year, so 60 is 1 March; `n` counts from 0, and
-- counts 29 February.
abbrev pub day_in : ℤ → DayRule → ℤ
day_in year (J day) = if nat_le day 59 then day_number year 1 day else day_number year 3 (day - 59)
day_in year (N day) = day_number year 1 (day + 1)
day_in year (M month week weekday) = form_day year month (week_form week weekday)

-- the second of an edge in a year, as local clocks count it
abbrev pub local_second : ℤ → Edge → ℤ
local_second year edge = (pos 86_400 *ℤ day_in year edge.day) +ℤ edge.time

-- daylight saving time starts in a year at this instant: the start is read in standard time
abbrev pub start_in : ℤ → Dst → ℤ → ℤ
start_in standard dst year = local_second year dst.start -ℤ standard

-- and it ends at this instant: the end is read in daylight saving time
abbrev pub stop_in : Dst → ℤ → ℤ
stop_in dst year = local_second year dst.stop -ℤ dst.offset

-- The last of all starts and ends that aren't after t is a start, perhaps with an end at the same instant.
pub record IsDaylightAt (standard : ℤ) (dst : Dst) (t : ℤ) : Type 0 where
  pub year : ℤ
  pub started : start_in standard dst year ≤ℤ t
  pub last : (other : ℤ) → stop_in dst other ≤ℤ t → stop_in dst other ≤ℤ start_in standard dst year

-- The last of all starts and ends that aren't after t is an end, and no start is at the same instant.
pub record IsStandardAt (standard : ℤ) (dst : Dst) (t : ℤ) : Type 0 where
  pub year : ℤ
  pub stopped : stop_in dst year ≤ℤ t
  pub last : (other : ℤ) → start_in standard dst other ≤ℤ t → start_in standard dst other <ℤ stop_in dst year

-- the state of standard time
abbrev pub standard_state : TzString → Shown
standard_state f = record { offset = f.offset; daylight = false; name = f.std }

-- the state of daylight saving time
abbrev pub daylight_state : Dst → Shown
daylight_state dst = record { offset = dst.offset; daylight = true; name = dst.name }

-- Without a daylight part, standard time at every instant; else by the last of all starts and ends that isn't after t.
abbrev pub MeansBy : TzString → Option Dst → ℤ → Shown → Type 0
MeansBy f None t state = state ≡ standard_state f
MeansBy f (Some dst) t state =
    (IsDaylightAt f.offset dst t × (state ≡ daylight_state dst)) ⊎ (IsStandardAt f.offset dst t × (state ≡ standard_state f))

-- The string shows this state at the instant. POSIX TZ
abbrev pub Means : TzString → ℤ → Shown → Type 0
Means f t state = MeansBy f f.dst t state

-- daylight saving time starts or ends in some year at this instant
abbrev pub IsEdgeInstant : ℤ → Dst → ℤ → Type 0
IsEdgeInstant standard dst t = (year : ℤ) × ((t ≡ start_in standard dst year) ⊎ (t ≡ stop_in dst year))

-- the string has an edge at the instant
abbrev pub HasEdgeAt : TzString → ℤ → Type 0
HasEdgeAt f t = IsSomeAnd f.dst (λ dst. IsEdgeInstant f.offset dst t)

-- The string shows this state at each of the instants.
abbrev pub MeansThroughout : TzString → Instants → Shown → Type 0
MeansThroughout f instants state = (t : ℤ) → Includes instants t → Means f t state
