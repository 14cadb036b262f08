-- Laws of what POSIX TZ strings mean: each is the contract of a function of the module `laws`.
use Rattle.std.specs.Prelude.{◌≡◌, ◌*◌, ℤ, pos, ◌+ℤ◌, ◌-ℤ◌, ◌*ℤ◌, ◌<ℤ◌, ◌≤ℤ◌, Some}
use Rattle.zic_base.specs.State.{Shown}
use Rattle.zic_calendar.specs.Calendar.{day_number}
use Rattle.zic_posix.specs.declared.footer.Dst.{Dst}
use Rattle.zic_posix.specs.Footer.{TzString}
use Rattle.zic_posix.specs.Grammar.{IsTzString}
use Rattle.zic_posix.specs.Meaning.{Means, start_in, stop_in}

-- A string that keeps the limits means exactly one state at every instant.
pub record MeansOneState : Type 0 where
  pub some : (f : TzString) → IsTzString f → (t : ℤ) → (state : Shown) × Means f t state
  pub only : (f : TzString) (t : ℤ) (a b : Shown) → Means f t a → Means f t b → a ≡ b

-- Edges come again after 400 years, 146,097 days, and so does what the string means.
pub record MeaningRepeats : Type 0 where
  pub starts : (standard : ℤ) (dst : Dst) (year : ℤ)
      → start_in standard dst (year +ℤ pos 400) ≡ start_in standard dst year +ℤ pos (146_097 * 86_400)
  pub stops : (dst : Dst) (year : ℤ) → stop_in dst (year +ℤ pos 400) ≡ stop_in dst year +ℤ pos (146_097 * 86_400)
  pub means : (f : TzString) (t : ℤ) (state : Shown) → Means f t state → Means f (t +ℤ pos (146_097 * 86_400)) state
  pub meant : (f : TzString) (t : ℤ) (state : Shown) → Means f (t +ℤ pos (146_097 * 86_400)) state → Means f t state

-- The starts of a string that keeps the limits rise from year to year, and so do its ends.
pub record EdgesRise : Type 0 where
  pub starts : (f : TzString) (dst : Dst) (a b : ℤ) → IsTzString f → f.dst ≡ Some dst → a <ℤ b
      → start_in f.offset dst a <ℤ start_in f.offset dst b
  pub stops : (f : TzString) (dst : Dst) (a b : ℤ) → IsTzString f → f.dst ≡ Some dst → a <ℤ b
      → stop_in dst a <ℤ stop_in dst b

-- the second at which a year begins, in UT
abbrev pub year_second : ℤ → ℤ
year_second year = pos 86_400 *ℤ day_number year 1 1

-- an instant less than 10 days outside the year
pub record IsNearYear (year t : ℤ) : Type 0 where
  pub from : year_second year <ℤ (t +ℤ pos (10 * 86_400))
  pub to : t <ℤ (year_second (year +ℤ pos 1) +ℤ pos (10 * 86_400))

-- The edges of a string that keeps the limits lie less than 10 days outside their years: 167:59:59 of time and 25:59:59 of offset
-- are less, and the day is at the latest the 1 January after the year.
pub record EdgesStayNearYear : Type 0 where
  pub starts : (f : TzString) (dst : Dst) (year : ℤ) → IsTzString f → f.dst ≡ Some dst → IsNearYear year (start_in f.offset dst year)
  pub stops : (f : TzString) (dst : Dst) (year : ℤ) → IsTzString f → f.dst ≡ Some dst → IsNearYear year (stop_in dst year)

-- an instant of the year, in UT
pub record IsInYear (year t : ℤ) : Type 0 where
  pub from : year_second year ≤ℤ t
  pub to : t <ℤ year_second (year +ℤ pos 1)

-- of an edge's instants in all years this year's is the last that isn't after t
pub record IsLastEdge (edge : ℤ → ℤ) (t year : ℤ) : Type 0 where
  pub not_after : edge year ≤ℤ t
  pub last : (other : ℤ) → edge other ≤ℤ t → edge other ≤ℤ edge year

-- the last of an edge's instants that isn't after t is of the years from two before to one after this year
pub record HasLastNear (edge : ℤ → ℤ) (t year : ℤ) : Type 0 where
  pub found : ℤ
  pub from : (year -ℤ pos 2) ≤ℤ found
  pub to : found ≤ℤ (year +ℤ pos 1)
  pub is_last : IsLastEdge edge t found

-- At each instant of a year the last start and the last end that aren't after it are of years near that year.
pub record LastEdgesAreNear : Type 0 where
  pub starts : (f : TzString) (dst : Dst) (year t : ℤ) → IsTzString f → f.dst ≡ Some dst → IsInYear year t
      → HasLastNear (start_in f.offset dst) t year
  pub stops : (f : TzString) (dst : Dst) (year t : ℤ) → IsTzString f → f.dst ≡ Some dst → IsInYear year t
      → HasLastNear (stop_in dst) t year
