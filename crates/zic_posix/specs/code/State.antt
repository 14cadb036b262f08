-- Values that the code of states computes.
use Rattle.std.specs.Prelude.{◌≡◌, ℤ, pos, ◌+ℤ◌, ◌-ℤ◌, ◌*ℤ◌, ◌<ℤ◌, ◌≤ℤ◌}
use Rattle.zic_posix.specs.declared.footer.Edge.{Edge}
use Rattle.zic_calendar.specs.declared.clock.TheConstants.{SECONDS_OF_DAY}
use Rattle.zic_posix.specs.declared.state.TheConstants.{CYCLE, FARTHEST_DAYS}
use Rattle.zic_posix.specs.Laws.{IsInYear, IsLastEdge}
use Rattle.zic_posix.specs.Meaning.{local_second}

-- an instant of the first 400 years from 1970 on
abbrev pub IsInCycle : ℤ → Type 0
IsInCycle t = (pos 0 ≤ℤ t) × (t <ℤ CYCLE)

-- Some days after t it is this year: the edges of later years are still to come, and those of the years before the last have come.
abbrev pub IsLatestYear : ℤ → ℤ → Type 0
IsLatestYear t year = IsInYear year (t +ℤ (FARTHEST_DAYS *ℤ SECONDS_OF_DAY))

-- a year of the first 400 from 1970 on, or the year after them
abbrev pub IsYearOfCycle : ℤ → Type 0
IsYearOfCycle year = (pos 1970 ≤ℤ year) × (year ≤ℤ pos 2370)

-- the instant of an edge in a year, where local time has this UT offset before it
abbrev pub instant_in : Edge → ℤ → ℤ → ℤ
instant_in edge offset year = local_second year edge -ℤ offset

-- the last of an edge's instants that isn't after t
pub record IsLastInstant (edge : ℤ → ℤ) (t instant : ℤ) : Type 0 where
  pub year : ℤ
  pub is : instant ≡ edge year
  pub is_last : IsLastEdge edge t year
