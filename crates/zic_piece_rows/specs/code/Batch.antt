-- Some records of a piece, column by column: each column follows from those before it.
use Rattle.std.specs.Prelude.{◌≡◌, ◌<◌, ℕ, ℤ, pos, List, Option, Bool, Some, None, Result, Ok, Err, MatchResult, IfSome, false, true, length, map, string_bytes, take}
use Rattle.zic_base.specs.declared.row_fault.RowKind.{RowKind}
use Rattle.zic_columns.specs.Own.{CsvRecord}
use Rattle.zic_columns.specs.Record.{IsSplit, field_text, record_at}
use Rattle.zic_columns.specs.declared.fields.Field.{Field}
use Rattle.zic_columns.specs.declared.fields.Field.TheVariants.{Plain, Quoted}
use Rattle.zic_columns.specs.declared.fields.Record.{Record}
use Rattle.zic_columns.specs.declared.fields.Span.{Span}
use Rattle.zic_columns.specs.declared.fields.Wanted.{Wanted}
use Rattle.zic_files.specs.File.{File}
use Rattle.zic_layouts.specs.declared.disambiguation.Disambiguation.{Disambiguation}
use Rattle.zic_layouts.specs.declared.layout.Layout.{Layout}
use Rattle.zic_layouts.specs.declared.layout.TimeFrom.{TimeFrom}
use Rattle.zic_layouts.specs.declared.layout.TimeFrom.TheVariants as from
use Rattle.zic_layouts.specs.declared.layout.Unit.{Unit}
use Rattle.zic_layouts.specs.declared.layout.Unit.TheVariants as unit
use Rattle.zic_layouts.specs.declared.layout.ZoneFrom.{ZoneFrom}
use Rattle.zic_layouts.specs.declared.layout.ZoneFrom.TheVariants as zone
use Rattle.zic_row_text.specs.Count.{fraction_of, second_of}
use Rattle.zic_row_text.specs.Local.{IsLocalSecond}
use Rattle.zic_row_text.specs.declared.row_time.RowTime.{RowTime}
use Rattle.zic_zones.specs.Zones.{number_of, zone_in}
use Rattle.zic_piece_rows.specs.LayoutRows.{count_in, fault_by, file_at, input_text, keeps, time_by}
use Rattle.zic_piece_rows.specs.declared.piece.Piece.{Piece}
use Rattle.zic_piece_rows.specs.declared.batch.Batch.{Batch}
use Rattle.zic_piece_rows.specs.declared.lookup.Counts.{Counts}
use Rattle.zic_piece_rows.specs.declared.start.Input.{Input}
use Rattle.zic_piece_rows.specs.declared.start.Input.TheVariants as given_by

-- the fields that rows need by a layout
abbrev pub wanted_zone : ZoneFrom → Option ℕ
wanted_zone (zone.Field index) = Some index
wanted_zone (zone.Name name) = None

abbrev pub wanted_by : Layout → Wanted
wanted_by layout = record { zone = wanted_zone layout.zone; time = layout.time }

-- a record of no bytes
abbrev pub blank : Record
blank = record { own = nowhere; count = 0; zone = Plain nowhere; time = Plain nowhere; stray = false } where
  nowhere : Span
  nowhere = record { start = 0; end = 0 }

-- a time of no second
abbrev pub blank_time : RowTime
blank_time = record { second = pos 0; fraction = 0; unit = unit.Second }

-- the time is that of a count
pub record IsTimeOf (u : Unit) (count : ℤ) (time : RowTime) : Type 0 where
  pub second : time.second ≡ second_of u count
  pub fraction : time.fraction ≡ fraction_of u count
  pub unit : time.unit ≡ u

-- a record of a piece
abbrev pub record_of : Piece → Record → CsvRecord
record_of piece given = record_at piece.layout.now.delimiter piece.bytes.now given

-- it is split as the layout says
abbrev pub IsGiven : Piece → Record → Type 0
IsGiven piece given = IsSplit piece.layout.now.delimiter piece.bytes.now (wanted_by piece.layout.now) given

-- the number of the file of a record's zone, the count in its field, and the count of its instant, or the fault of a row that has none
abbrev pub zone_at : Piece → Record → Option ℕ
zone_at piece given = number_of piece.zones.now (zone_in piece.layout.now.zone (record_of piece given).fields)

abbrev pub count_at : Piece → Record → Option ℤ
count_at piece given = count_in piece.layout.now (record_of piece given).fields

abbrev pub time_at : Piece → Record → Result ℤ RowKind
time_at piece given = time_by piece.layout.now (file_at piece.zones.now (zone_at piece given)) (count_at piece given)

-- the fault of a record of a piece as the row of a number
abbrev pub fault_at : Piece → ℕ → Record → Option RowKind
fault_at piece number given = fault_by piece.layout.now piece.zones.now piece.most number (record_of piece given)

-- fields have local times
abbrev pub IsLocal : TimeFrom → Type 0
IsLocal time = (choice : Disambiguation) × (time ≡ from.Local choice)

-- a count of a layout's fields, which is in the years 1 to 9999 where it is one of local time
abbrev pub IsCountFor : TimeFrom → Unit → ℤ → Type 0
IsCountFor from.Count u count = Prim.Unit {0}
IsCountFor (from.Text form) u count = Prim.Unit {0}
IsCountFor (from.Local choice) u count = IsLocalSecond (second_of u count)

-- the field of a record's time has no double quotes, where a row has that as it is
abbrev pub IsPlain : Field → Type 0
IsPlain (Plain span) = Prim.Unit {0}
IsPlain (Quoted span) = ⊥

abbrev pub IsInput : Piece → Record → Input → Type 0
IsInput piece given given_by.Field = IsPlain given.time
IsInput piece given (given_by.Count count) = IsCountFor piece.layout.now.from piece.layout.now.unit count

-- what a row has of it
abbrev pub input_in : Piece → Record → Input → List ℕ
input_in piece given given_by.Field = field_text piece.layout.now.delimiter piece.bytes.now given.time
input_in piece given (given_by.Count count) = input_text piece.layout.now.from piece.layout.now.unit count

-- the counts that the record's field has and that its instant is of
pub record AreCountsOf (layout : Layout) (file : Option File) (input : Option ℤ) (counts : Counts) : Type 0 where
  pub input_is : input ≡ Some counts.input
  pub sound : IsCountFor layout.from layout.unit counts.input
  pub time : time_by layout file input ≡ Ok counts.count

-- the time of a record is empty and kept
abbrev pub kept_at : Piece → Record → Bool
kept_at piece given = keeps piece.layout.now (record_of piece given)

-- it is, where its row has no fault
abbrev pub IsKeptIf : Piece → Record → Option RowKind → Type 0
IsKeptIf piece given None = kept_at piece given ≡ true
IsKeptIf piece given (Some kind) = Prim.Unit {0}

-- a record without counts: its time is empty and kept, or its row has this fault
abbrev pub IsUntimed : Piece → Record → Option RowKind → Type 0
IsUntimed piece given None = kept_at piece given ≡ true
IsUntimed piece given (Some kind) = (kept_at piece given ≡ false) × (time_at piece given ≡ Err kind)

-- the counts of a record, or that it has none
abbrev pub AreTimesAt : Piece → Record → Result Counts (Option RowKind) → Type 0
AreTimesAt piece given times = MatchResult times (AreCountsOf piece.layout.now (file_at piece.zones.now (zone_at piece given)) (count_at piece given)) (IsUntimed piece given)

-- or the fault of its row
abbrev pub AreTimesOf : Layout → Option File → Option ℤ → Result Counts RowKind → Type 0
AreTimesOf layout file input times = MatchResult times (AreCountsOf layout file input) (λ kind. time_by layout file input ≡ Err kind)

-- where all rows are in one zone, the number is that of its file
abbrev pub IsNamed : ZoneFrom → List File → Option ℕ → Type 0
IsNamed (zone.Field index) files file = Prim.Unit {0}
IsNamed (zone.Name name) files file = file ≡ number_of files (string_bytes name)

-- the number is that of a file, or there is none
abbrev pub IsFile : Piece → Option ℕ → Type 0
IsFile piece file = IfSome file (λ n. n < length piece.zones.now)

-- the first records of a batch
abbrev pub records_of : Piece → Batch → ℕ → List CsvRecord
records_of piece batch count = map (record_of piece) (take count batch.records)
