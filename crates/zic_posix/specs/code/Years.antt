-- Tables of edges by kinds of years.
use Rattle.std.specs.Prelude.{◌≡◌, ℕ, ◌+◌, ◌<◌, ◌≤◌, unsigned_abs, ℤ, pos, ◌+ℤ◌, ◌-ℤ◌, ◌≤ℤ◌, if◌then◌else◌, IsSomeAnd, List, length, slice_index_or}
use Rattle.zic_calendar.specs.Calendar.{day_number, is_leap_year}
use Rattle.zic_calendar.specs.Weekday.{weekday_of}
use Rattle.zic_posix.specs.declared.footer.Dst.{Dst}
use Rattle.zic_posix.specs.declared.footer.Edge.{Edge}
use Rattle.zic_posix.specs.declared.years.TheConstants.{YEARS_OF_KINDS}
use Rattle.zic_posix.specs.declared.years.YearEdges.{YearEdges}
use Rattle.zic_posix.specs.declared.years.YearStart.{YearStart}
use Rattle.zic_posix.specs.declared.year_table.YearTable.{YearTable}
use Rattle.zic_posix.specs.declared.span.Phase.{Phase}
use Rattle.zic_posix.specs.Footer.{TzString}
use Rattle.zic_posix.specs.Grammar.{IsOffset, IsDaylight}
use Rattle.zic_posix.specs.Laws.{year_second}
use Rattle.zic_posix.specs.code.Inside.{AreInside}
use Rattle.zic_posix.specs.code.Span.{IsNear, IsPhase}
use Rattle.zic_posix.specs.code.State.{instant_in}

-- the number of a year's kind: the weekday of its 1 January, and 7 more in a leap year
abbrev pub kind_of : ℤ → ℕ
kind_of year = (if is_leap_year year then 7 else 0) + weekday_of (day_number year 1 1)

-- a year of the first 400 from 1970 on, or the one before or after them
abbrev pub IsNearCycle : ℤ → Type 0
IsNearCycle year = (pos 1969 ≤ℤ year) × (year ≤ℤ pos 2371)

-- the start of a year, and its kind
pub record IsYearStart (year : ℤ) (start : YearStart) : Type 0 where
  pub second : start.second ≡ year_second year
  pub kind : start.kind ≡ kind_of year
  pub known : start.kind < 14
  pub near : unsigned_abs start.second ≤ 260_000_000_000

-- how many seconds after the start of a year of a kind an edge comes
abbrev pub edge_second : Edge → ℤ → ℕ → ℤ
edge_second edge offset kind =
    instant_in edge offset (slice_index_or YEARS_OF_KINDS kind (pos 0)) -ℤ year_second (slice_index_or YEARS_OF_KINDS kind (pos 0))

-- an edge in each kind of year
pub record AreEdgeSeconds (edge : Edge) (offset : ℤ) (seconds : List ℤ) : Type 0 where
  pub count : length seconds ≡ 14
  pub each : (kind : ℕ) → kind < 14 → slice_index_or seconds kind (pos 0) ≡ edge_second edge offset kind

-- the table of a daylight part
pub record IsYearTable (standard : ℤ) (dst : Dst) (table : YearTable) : Type 0 where
  pub starts : AreEdgeSeconds dst.start standard table.starts
  pub stops : AreEdgeSeconds dst.stop dst.offset table.stops

-- the table of a string
abbrev pub IsTableOf : TzString → YearTable → Type 0
IsTableOf f table = IsSomeAnd f.dst (λ dst. IsYearTable f.offset dst table)

-- the edges of a year by a table
pub record AreEdgesIn (table : YearTable) (year : ℤ) (edges : YearEdges) : Type 0 where
  pub start : edges.start ≡ year_second year +ℤ slice_index_or table.starts (kind_of year) (pos 0)
  pub stop : edges.stop ≡ year_second year +ℤ slice_index_or table.stops (kind_of year) (pos 0)
  pub starts_inside : AreInside table.starts
  pub stops_inside : AreInside table.stops
  pub start_near : IsNear edges.start
  pub stop_near : IsNear edges.stop

-- the time in force by the daylight part whose table it is
abbrev pub IsPhaseBy : YearTable → ℤ → Phase → Type 0
IsPhaseBy table t phase =
    (standard : ℤ) (dst : Dst) → IsOffset standard → IsDaylight standard dst → IsYearTable standard dst table → IsPhase standard dst t phase
