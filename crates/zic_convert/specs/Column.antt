-- The rows of a column.
use Rattle.std.specs.Prelude.{◌≡◌, ℕ, ◌+◌, min, codes, List, [], ◌∷◌, ◌++◌, drop, length, map, Option, None, Some, option_map}
use Rattle.std.specs.List.{concat, flat_map}
use Rattle.csv.specs.Reading.{strip_bom}
use Rattle.zic_columns.specs.Column.{AreColumnRecords}
use Rattle.zic_columns.specs.Lines.{records_by, texts_by}
use Rattle.zic_columns.specs.Own.{CsvRecord, first_text}
use Rattle.zic_columns.specs.Truncated.{truncated}
use Rattle.zic_files.specs.File.{File}
use Rattle.zic_layouts.specs.Layout.{records_before}
use Rattle.zic_layouts.specs.declared.layout.AtFault.{AtFault}
use Rattle.zic_layouts.specs.declared.layout.AtFault.TheVariants as at
use Rattle.zic_layouts.specs.declared.layout.Header.{Header}
use Rattle.zic_layouts.specs.declared.layout.Header.TheVariants as header
use Rattle.zic_layouts.specs.declared.layout.Layout.{Layout}
use Rattle.zic_layouts.specs.declared.layout.Records.{Records}
use Rattle.zic_layouts.specs.declared.layout.Records.TheVariants as records
use Rattle.zic_layouts.specs.declared.plan.TheConstants.{MAX_BYTES}
use Rattle.zic_layouts.specs.declared.layout.RowStart.{RowStart}
use Rattle.zic_layouts.specs.declared.layout.RowStart.TheVariants as start
use Rattle.zic_layouts.specs.declared.layout.Style.TheVariants as styles
use Rattle.zic_layouts.specs.RowField.{fields_of}
use Rattle.zic_layouts.specs.declared.row_field.RowField.{RowField}
use Rattle.zic_layouts.specs.declared.row_field.RowField.TheVariants as field
use Rattle.zic_layouts.specs.declared.row_field.RowFields.{RowFields}
use Rattle.zic_layouts.specs.declared.row_field.RowFields.TheVariants as rows
use Rattle.zic_layouts.specs.declared.layout.TimeFrom.{TimeFrom}
use Rattle.zic_layouts.specs.declared.layout.TimeFrom.TheVariants as from
use Rattle.zic_base.specs.declared.row_fault.RowKind.{RowKind}
use Rattle.zic_piece_rows.specs.Rows.{RecordsConvertTo}
use Rattle.zic_piece_rows.specs.LayoutRows.{RecordsConvertBy, ended, following, if_rejected}
use Rattle.zic_convert.specs.By.{By}

-- The texts of a column's rows up to the first that has a fault, and that fault, or none. Rows count from 1, and there may be at most
-- this number. The records are those of CSV with commas and double quotes, without a header row. A byte order mark at the start is none
-- of the column, and a line without a byte makes no record.
pub record ConvertsTo (files : List File) (most : ℕ) (column : List ℕ) (texts : List (List ℕ)) (fault : Option RowKind) : Type 0 where
  pub records : List (List (List ℕ))
  pub are : AreColumnRecords 44 (strip_bom column) records
  pub rows : RecordsConvertTo files most 1 records texts fault

-- The same of a column whose first record is a header: own choice. A header makes no row, and isn't counted.
pub record ConvertsBodyTo (files : List File) (most : ℕ) (column : List ℕ) (texts : List (List ℕ)) (fault : Option RowKind) : Type 0 where
  pub records : List (List (List ℕ))
  pub are : AreColumnRecords 44 (strip_bom column) records
  pub rows : RecordsConvertTo files most 1 (drop 1 records) texts fault

-- How many bytes of each line of a column are read, where a line that is too long is a row with a fault: four more than a line may have. So a
-- line that is too long stays too long, also the first, of which a byte order mark may take three bytes.
abbrev pub read_of_lines : AtFault → Records → Option ℕ → Option ℕ
read_of_lines at.End mode most = None
read_of_lines at.GoOn records.Csv most = None
read_of_lines at.GoOn records.Lines most = option_map (λ most. min most MAX_BYTES + 4) most
read_of_lines at.Reject records.Csv most = None
read_of_lines at.Reject records.Lines most = option_map (λ most. min most MAX_BYTES + 4) most

-- the column as it is read by a layout: whole, or its lines truncated
abbrev pub read_by : Layout → List ℕ → List ℕ
read_by layout column = truncated (read_of_lines layout.at_fault layout.records layout.max_record) column

-- The records of the bytes that are read of a column, each with its own bytes: those of CSV with the layout's delimiter and double quotes, or
-- of each line, as the layout says. A byte order mark at the start is none of the column, and a line without a byte makes no record.
abbrev pub records_read : Layout → List ℕ → List CsvRecord
records_read layout bytes = records_by layout.records layout.delimiter (strip_bom bytes)

-- and their own bytes alone
abbrev pub texts_read : Layout → List ℕ → List (List ℕ)
texts_read layout bytes = texts_by layout.records layout.delimiter (strip_bom bytes)

-- The records of a column that make rows by a layout: all but the header, if there is one. Where lines that have too many bytes are rows with
-- a fault, each line is truncated.
abbrev pub AreRowRecords : Layout → List ℕ → List CsvRecord → Type 0
AreRowRecords layout column row_records = row_records ≡ drop (records_before layout.header) (records_read layout (read_by layout column))

-- The texts of a column's rows, up to the first that ends the run, and its fault, or none. Rows count from 1.
pub record ConvertsBy (by : By) (column : List ℕ) (texts : List (List ℕ)) (fault : Option RowKind) : Type 0 where
  pub row_records : List CsvRecord
  pub are : AreRowRecords by.layout column row_records
  pub rows : RecordsConvertBy by.layout by.releases by.most_rows 1 row_records texts fault

-- these names, each after a delimiter
abbrev pub delimited : ℕ → List (List ℕ) → List ℕ
delimited d names = flat_map (λ name. d ∷ name) names

-- the name of the field that a row begins with after the zone's name: own choice
abbrev pub time_name : TimeFrom → List ℕ
time_name from.Count = codes "instant"
time_name (from.Text form) = codes "instant"
time_name (from.Local choice) = codes "local"

-- the name of a field that a row adds to its record: own choice
abbrev pub field_name : RowField → List ℕ
field_name field.Local = codes "local"
field_name field.Time = codes "time"
field_name field.Instant = codes "instant"
field_name field.Utc = codes "utc"
field_name field.Offset = codes "offset"
field_name field.Daylight = codes "daylight"
field_name field.Abbreviation = codes "abbreviation"
field_name field.Ambiguous = codes "ambiguous"

-- its name in a header: by the style `Iso` a time with its offset has the name `local`, where records have instants, and in a list its own
abbrev pub name_among : RowFields → TimeFrom → RowField → List ℕ
name_among (rows.Usual styles.Iso) from.Count field.Time = codes "local"
name_among (rows.Usual styles.Iso) (from.Text form) field.Time = codes "local"
name_among fields time f = field_name f

-- the names of the fields that a row adds to its record
abbrev pub added_names : RowFields → TimeFrom → List (List ℕ)
added_names fields time = map (name_among fields time) (fields_of fields time)

-- the names of the fields that another release answers, after all others, where there is one: own choice
abbrev pub names_after : Option (List File) → List (List ℕ) → List (List ℕ)
names_after None names = []
names_after (Some old) names = map (λ name. codes "old_" ++ name) names

-- The names of all fields that a row by a layout adds to its record, each with the layout's prefix and after the delimiter. A field in the
-- place of the time's has that one's name.
abbrev pub names_added : Layout → Option (List File) → List ℕ
names_added layout old =
    let names : List (List ℕ) = added_names layout.fields layout.from in
    delimited layout.delimiter (map (λ name. layout.prefix ++ name) (following layout.start names ++ names_after old names))

-- the line of the names of all fields of rows that begin with a zone's name
abbrev pub row_names : Layout → Option (List File) → List ℕ
row_names layout old = codes "zone" ++ layout.delimiter ∷ (time_name layout.from ++ (names_added layout old ++ 10 ∷ []))

-- the line, where a header is written and rows begin with names, and else nothing
abbrev pub names_of : RowStart → Header → List ℕ → List ℕ
names_of start.Fields header.First line = line
names_of _ _ line = []

-- the own bytes of the header that is written, if one is, by those of all records
abbrev pub own_header : Header → List (List ℕ) → List ℕ
own_header header.Absent texts = []
own_header header.First texts = first_text texts
own_header header.Skipped texts = []

-- and by the bytes that are read of a column
abbrev pub header_read : Layout → List ℕ → List ℕ
header_read layout bytes = own_header layout.header (texts_read layout bytes)

-- a column's header with those names, where rows begin with their records; a record has a byte or more
abbrev pub header_of : RowStart → List ℕ → List ℕ → List ℕ
header_of start.Record names (byte ∷ own) = (byte ∷ own) ++ (names ++ 10 ∷ [])
header_of start.Replaced names (byte ∷ own) = (byte ∷ own) ++ (names ++ 10 ∷ [])
header_of _ names _ = []

-- what is written before a column is read: the line of names, or nothing
abbrev pub names_line : Layout → Option (List File) → List ℕ
names_line layout old = ended layout.line_end (names_of layout.start layout.header (row_names layout old))

-- and once its header was read
abbrev pub own_line : By → List ℕ → List ℕ
own_line by column = ended by.layout.line_end (header_of by.layout.start (names_added by.layout by.releases.old) (header_read by.layout (read_by by.layout column)))

-- the own bytes of the column's header, where there is one that is written and records are rejected, for the log of these
abbrev pub rejects_header : Layout → List ℕ → List ℕ
rejects_header layout column = if_rejected layout.at_fault (header_read layout (read_by layout column))

-- The header that is written before the rows of a column: own choice. It is the line of names where rows begin with names,
-- and else the column's own header, with the names of the fields that rows add. It is nothing where the column has none, or it is skipped.
abbrev pub header_text : By → List ℕ → List ℕ
header_text by column = names_line by.layout by.releases.old ++ own_line by column

-- The text of a column's rows up to the first that has a fault, how many there are, and that fault, or none.
pub record AreRowsOfColumn (files : List File) (most : ℕ) (column text : List ℕ) (count : ℕ) (fault : Option RowKind) : Type 0 where
  pub texts : List (List ℕ)
  pub converts : ConvertsTo files most column texts fault
  pub text_is : text ≡ concat texts
  pub count_is : count ≡ length texts
