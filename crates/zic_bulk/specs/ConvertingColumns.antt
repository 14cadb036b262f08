-- The output of `convert` by zones, and why it gives up.
use Rattle.std.specs.Prelude.{◌≡◌, ◌⊎◌, ℕ, true, false, List, Option, string_bytes}
use Rattle.zic_base.specs.declared.stops.RunStop.{RunStop}
use Rattle.zic_base.specs.declared.stops.RunStop.TheVariants as stop
use Rattle.zic_convert.specs.Convert.{IsCauseOf}
use Rattle.zic_convert.specs.By.{By, by_of}
use Rattle.zic_convert.specs.Column.{names_line}
use Rattle.zic_convert.specs.Run.{ConvertsAllBy, EndsAtNames, EndsBy, EndsByZones, Run}
use Rattle.zic_counted.specs.Counts.{HasFailedSince}
use Rattle.zic_files.specs.File.{File}
use Rattle.zic_io.specs.Failing.{IsUnknownZone, run_failure}
use Rattle.zic_io.specs.declared.failure.Failure.{Failure}
use Rattle.zic_io.specs.declared.failure.Failure.TheVariants as failures
use Rattle.zic_layouts.specs.Plan.{Limits}
use Rattle.zic_layouts.specs.declared.layout.Layout.{Layout}
use Rattle.zic_layouts.specs.declared.layout.ZoneFrom.{ZoneFrom}
use Rattle.zic_layouts.specs.declared.layout.ZoneFrom.TheVariants as zone
use Rattle.zic_zones.specs.Zones.{is_named}
use Rattle.zic_zones.specs.declared.zones.Releases.{Releases}

-- where all rows are to be in one zone, a file has its name
abbrev pub HasZone : List File → ZoneFrom → Type 0
HasZone files (zone.Field index) = Unit {0}
HasZone files (zone.Name name) = is_named files (string_bytes name) ≡ true

-- why there is no zone for all rows: no file has its name, and the failure has that name, unless memory ran out
abbrev pub IsFailureOfZone : List File → ZoneFrom → Failure → Type 0
IsFailureOfZone files (zone.Field index) failure = ⊥
IsFailureOfZone files (zone.Name name) failure =
    (is_named files (string_bytes name) ≡ false) × ((failure ≡ failures.Memory) ⊎ IsUnknownZone (string_bytes name) failure)

-- The first release has the zone for all rows, if there is to be one. All rows of the column were written, there are n, and their faults,
-- which are few, were noted.
pub record Converts {R W : Type 0} (by : By) (n : ℕ) (run : Run R W) : Type 0 where
  pub has_zone : HasZone by.releases.zones by.layout.zone
  pub rows : ConvertsAllBy by n run

-- nothing was read of the column, nothing was written, and no fault was noted
pub record IsUntouched {R W : Type 0} (run : Run R W) : Type 0 where
  pub unread : run.reader' ≡ run.reader
  pub unwritten : run.writer' ≡ run.writer
  pub unnoted : run.output.log' ≡ run.output.log

-- The zones of a conversion, before it and after it: how zones grow as names are requested and break as memory is refused, what they may be
-- where one name alone is requested, and the releases that rows may be made by.
pub record ZonesRequested (Z : Type 0) : Type 1 where
  pub grown : Z → Z → Type 0
  pub broken : Z → Z → Type 0
  pub requests : Z → List ℕ → Z → Type 0
  pub may_be : Z → Releases → Type 0
  pub zones : Z
  pub zones' : Z

abbrev pub zones_of : {Z : Type 0} → (Grown Broken : Z → Z → Type 0) → (Z → List ℕ → Z → Type 0) → (Z → Releases → Type 0) → Z → Z → ZonesRequested Z
zones_of Grown Broken Requests MayBe zones zones' = record { grown = Grown; broken = Broken; requests = Requests; may_be = MayBe; zones = zones; zones' = zones' }

-- no zone was requested but the one that all rows are to be in, if there is to be one
abbrev pub IsZoneRequested : {Z : Type 0} → ZoneFrom → ZonesRequested Z → Type 0
IsZoneRequested (zone.Field index) requested = requested.zones' ≡ requested.zones
IsZoneRequested (zone.Name name) requested = requested.requests requested.zones (string_bytes name) requested.zones'

-- Why zones have none for all rows: memory was refused as the zone was requested, or by all releases that rows may be made by then, there is
-- none.
abbrev pub IsFailureOfZones : {Z : Type 0} → ZoneFrom → ZonesRequested Z → Failure → Type 0
IsFailureOfZones (zone.Field index) requested failure = ⊥
IsFailureOfZones (zone.Name name) requested failure =
    ((failure ≡ failures.Memory) × requested.broken requested.zones requested.zones')
    ⊎ (requested.grown requested.zones requested.zones' × ((releases : Releases) → requested.may_be requested.zones' releases → IsFailureOfZone releases.zones (zone.Name name) failure))

-- the zones have none for all rows; nothing was read or written, and no other zone was requested
pub record IsFailureWithoutZone {R W Z : Type 0} (layout : Layout) (run : Run R W) (requested : ZonesRequested Z) (failure : Failure) : Type 0 where
  pub untouched : IsUntouched run
  pub alone : IsZoneRequested layout.zone requested
  pub of_zones : IsFailureOfZones layout.zone requested failure

-- a failure of the writer was counted at this line of names
pub record FailsAtNames {R W : Type 0} (line : List ℕ) (run : Run R W) (failure : Failure) : Type 0 where
  pub is : failure ≡ failures.CannotWriteRows
  pub ends : EndsAtNames line stop.WriteFailed run
  pub failed : HasFailedSince run.writer' run.writer.failures

-- the zones have one for all rows, if there is to be one, no other zone was requested, and the line of names can't be written
pub record IsFailureOfNames {R W Z : Type 0} (layout : Layout) (run : Run R W) (requested : ZonesRequested Z) (failure : Failure) : Type 0 where
  pub grown : requested.grown requested.zones requested.zones'
  pub alone : IsZoneRequested layout.zone requested
  pub has_zone : (releases : Releases) → requested.may_be requested.zones' releases → HasZone releases.zones layout.zone
  pub line : List ℕ
  pub of_rows : (releases : Releases) → requested.may_be requested.zones' releases → line ≡ names_line layout releases.old
  pub fails : FailsAtNames line run failure

-- The conversion of the column ended early, for one of its own causes or for the log. It never ends for a fault of a source, so the number of
-- texts doesn't matter.
pub record IsFailureOfRows {R W Z : Type 0} (plan : Limits) (limit : Option ℕ) (layout : Layout) (run : Run R W) (requested : ZonesRequested Z) (failure : Failure) : Type 0 where
  pub stop : RunStop
  pub is : failure ≡ run_failure stop 1
  pub cause : IsCauseOf plan.max_bytes run.reader run.reader' run.writer run.writer' stop ⊎ (failure ≡ failures.CannotWriteList)
  pub ends : EndsByZones requested.grown requested.broken requested.may_be requested.zones requested.zones' stop (λ releases. HasZone releases.zones layout.zone × EndsBy (by_of layout releases plan.max_rows limit) stop run)

-- why zones don't convert a column by a layout
abbrev pub IsFailureOfConvert : {R W Z : Type 0} → Limits → Option ℕ → Layout → Run R W → ZonesRequested Z → Failure → Type 0
IsFailureOfConvert plan limit layout run requested failure =
    IsFailureWithoutZone layout run requested failure
    ⊎ IsFailureOfNames layout run requested failure
    ⊎ IsFailureOfRows plan limit layout run requested failure
