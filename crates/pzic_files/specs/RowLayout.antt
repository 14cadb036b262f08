-- What else the rows of a column may have, by numbers that C has. Own choice.
use Rattle.std.specs.Prelude.{◌==◌, ℕ, List, replicate}
use Rattle.std.specs.List.{before_first}
use Rattle.zic_layouts.specs.declared.layout.EmptyTime.{EmptyTime}
use Rattle.zic_layouts.specs.declared.layout.EmptyTime.TheVariants as empty
use Rattle.zic_layouts.specs.declared.layout.LineEnd.{LineEnd}
use Rattle.zic_layouts.specs.declared.layout.LineEnd.TheVariants as ends
use Rattle.zic_layouts.specs.declared.row_field.RowField.{RowField}
use Rattle.zic_layouts.specs.declared.row_field.RowField.TheVariants as field
use Rattle.pzic_files.specs.declared.layout.ColumnLayout.{ColumnLayout}
use Rattle.pzic_files.specs.declared.row_layout.RowLayout.{RowLayout}
use Rattle.pzic_files.specs.declared.row_layout.TheConstants.{FIELDS_ROOM, PREFIX_ROOM, RESERVED}

-- a field of rows; no field has the number 0
abbrev pub field_number : RowField → ℕ
field_number field.Local = 1
field_number field.Time = 2
field_number field.Instant = 3
field_number field.Utc = 4
field_number field.Offset = 5
field_number field.Daylight = 6
field_number field.Abbreviation = 7
field_number field.Ambiguous = 8

-- what a record does whose time is an empty field
abbrev pub empty_number : EmptyTime → ℕ
empty_number empty.Fault = 0
empty_number empty.Keep = 1

-- how rows end, and the header
abbrev pub line_end_number : LineEnd → ℕ
line_end_number ends.Lf = 0
line_end_number ends.CrLf = 1

-- the numbers before the first 0, or all where none is
abbrev pub before_zero : List ℕ → List ℕ
before_zero numbers = before_first (λ n. n == 0) numbers

-- the layout of a column whose rows have nothing else: all its other numbers are 0
abbrev pub usual_rows : ColumnLayout → RowLayout
usual_rows given = record {
  column = given;
  empty = 0;
  line_end = 0;
  reserved = replicate RESERVED 0;
  only = replicate FIELDS_ROOM 0;
  prefix = replicate PREFIX_ROOM 0;
}
