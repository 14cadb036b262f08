-- Rows as the code has them.
use Rattle.std.specs.Prelude.{◌≡◌, ◌+◌, ◌<◌, ◌≤◌, ℕ, ℤ, pos, ◌+ℤ◌, ◌*ℤ◌, if◌then◌else◌, List, [], ◌∷◌, ◌++◌, Option, None, Some, MatchOption}
use Rattle.std.specs.List.{flat_map}
use Rattle.std.specs.Fmt.{signed_decimal}
use Rattle.zic_base.specs.Digits.{offset_text}
use Rattle.zic_base.specs.State.{Shown}
use Rattle.zic_columns.specs.Own.{CsvRecord}
use Rattle.zic_columns.specs.Raw.{replaced}
use Rattle.zic_columns.specs.Record.{IsWithin, bytes_at}
use Rattle.zic_columns.specs.declared.fields.Record.{Record}
use Rattle.zic_files.specs.File.{File}
use Rattle.zic_layouts.specs.declared.layout.Layout.{Layout}
use Rattle.zic_layouts.specs.declared.layout.TimeFrom.{TimeFrom}
use Rattle.zic_layouts.specs.declared.layout.TimeFrom.TheVariants as from
use Rattle.zic_layouts.specs.declared.layout.Unit.{Unit}
use Rattle.zic_layouts.specs.declared.row_field.RowField.{RowField}
use Rattle.zic_layouts.specs.declared.row_field.RowField.TheVariants as field
use Rattle.zic_row_text.specs.Count.{fraction_text, units_of_second}
use Rattle.zic_row_text.specs.Row.{iso_offset_text, local_text}
use Rattle.zic_row_text.specs.declared.row_time.RowTime.{RowTime}
use Rattle.zic_base.specs.declared.row_fault.RowKind.{RowKind}
use Rattle.zic_zones.specs.declared.zones.Releases.{Releases}
use Rattle.zic_piece_rows.specs.LayoutRows.{IsWrittenBy, ends_by, fault_by, noted, place_by}
use Rattle.zic_piece_rows.specs.PieceRows.{RowsOf}
use Rattle.zic_piece_rows.specs.declared.piece.Piece.{Piece}
use Rattle.zic_piece_rows.specs.declared.start.AroundTime.{AroundTime}
use Rattle.zic_piece_rows.specs.declared.start.Input.{Input}
use Rattle.zic_piece_rows.specs.declared.start.Input.TheVariants as given_by

-- the count of a time
abbrev pub time_count : RowTime → ℤ
time_count time = (time.second *ℤ pos (units_of_second time.unit)) +ℤ pos time.fraction

-- the local time of a time at an offset
abbrev pub clock_at : RowTime → ℤ → List ℕ
clock_at time offset = local_text time.second offset ++ fraction_text time.unit time.fraction

-- Bytes of a record that stand before and after the field of its time. All of the record stands before, where it has no such field.
pub record AreAround (piece : Piece) (given : Record) (around : AroundTime) : Type 0 where
  pub before : IsWithin piece.bytes.now around.before
  pub after : IsWithin piece.bytes.now around.after
  pub replaces : piece.layout.now.time < given.count → (text : List ℕ)
      → replaced piece.layout.now.delimiter (bytes_at piece.bytes.now given.own) piece.layout.now.time text ≡ bytes_at piece.bytes.now around.before ++ (text ++ bytes_at piece.bytes.now around.after)
  pub whole : given.count ≤ piece.layout.now.time → bytes_at piece.bytes.now given.own ≡ bytes_at piece.bytes.now around.before ++ bytes_at piece.bytes.now around.after

-- the text of a field of a row, by the time of its instant
abbrev pub field_at_time : RowField → RowTime → Shown → List ℕ → List ℕ
field_at_time field.Local time state place = clock_at time state.offset
field_at_time field.Time time state place = clock_at time state.offset ++ iso_offset_text state.offset
field_at_time field.Instant time state place = signed_decimal (time_count time)
field_at_time field.Utc time state place = clock_at time (pos 0) ++ 90 ∷ []
field_at_time field.Offset time state place = offset_text state.offset
field_at_time field.Daylight time state place = (if state.daylight then 49 else 48) ∷ []
field_at_time field.Abbreviation time state place = state.name
field_at_time field.Ambiguous time state place = place

-- what follows in a row: these fields
abbrev pub rest_at : ℕ → List RowField → RowTime → Shown → List ℕ → List ℕ
rest_at delimiter fields time state place = flat_map (λ f. delimiter ∷ field_at_time f time state place) fields ++ 10 ∷ []

-- those that follow a local time in the usual style
abbrev pub local_fields : List RowField
local_fields = field.Instant ∷ field.Offset ∷ field.Daylight ∷ field.Abbreviation ∷ []

-- where the local time of a row lies by a file, by what the row has of it
abbrev pub place_in : TimeFrom → Unit → Option File → Input → List ℕ
place_in from.Count u file input = []
place_in (from.Text form) u file input = []
place_in (from.Local choice) u None input = []
place_in (from.Local choice) u (Some file) given_by.Field = []
place_in (from.Local choice) u (Some file) (given_by.Count local) = place_by (from.Local choice) u file local

-- what a row has of the time in the field of its record: the field as it is, where that has decimals, or else the time's count
abbrev pub input_of : TimeFrom → RowTime → Input
input_of from.Count time = given_by.Field
input_of (from.Text form) time = given_by.Count (time_count time)
input_of (from.Local choice) time = given_by.Count (time_count time)

-- the files of a release, and those of another, if there is one
abbrev pub with_old : List File → Option (List File) → Releases
with_old files old = record { zones = files; old = old }

abbrev pub by_both : Piece → Option (List File) → Releases
by_both piece old = with_old piece.zones.now old

-- the files of a piece with the zones of another release, if there is one
abbrev pub files_of : Option Piece → Option (List File)
files_of None = None
files_of (Some other) = Some other.zones.now

-- Rows, and those with the row of one record more, as the row of a number, or with the fault that ends the run there.
abbrev pub IsNextBy : Layout → Releases → ℕ → ℕ → CsvRecord → RowsOf → RowsOf → Option RowKind → Type 0
IsNextBy layout releases most number row_record old new end = MatchOption end
    ((row : List ℕ) × IsWrittenBy layout releases most number row_record row × (new ≡ record { text = old.text ++ row; count = old.count + 1; fault = old.fault; faults = old.faults ++ noted layout.at_fault number row_record.own (fault_by layout releases.zones most number row_record) }))
    (λ kind. new ≡ record old { fault = Some kind })

abbrev pub AreNextBy : Layout → Releases → ℕ → ℕ → CsvRecord → RowsOf → RowsOf → Type 0
AreNextBy layout releases most number row_record old new = IsNextBy layout releases most number row_record old new (ends_by layout releases.zones most number row_record)

-- some rows, and the rows after them, where none of the first ends the run
abbrev pub followed_by : RowsOf → RowsOf → Option RowKind → RowsOf
followed_by rows others None = record { text = rows.text ++ others.text; count = rows.count + others.count; fault = others.fault; faults = rows.faults ++ others.faults }
followed_by rows others (Some kind) = rows
