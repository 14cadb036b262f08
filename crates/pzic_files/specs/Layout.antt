-- How a column is read and what its rows are, by numbers that C has. Own choice.
use Rattle.std.specs.Prelude.{◌≡◌, ◌==◌, ◌≢◌, ◌⊎◌, ℕ, true, false, IsUtf8, List, [], map, Option, Some, None, string_bytes}
use Rattle.std.specs.List.{list_all}
use Rattle.zic_layouts.specs.Delimiter.{is_delimiter}
use Rattle.zic_layouts.specs.FieldList.{is_field_list}
use Rattle.zic_layouts.specs.Prefix.{is_prefix}
use Rattle.zic_layouts.specs.declared.disambiguation.Disambiguation.TheVariants as choice
use Rattle.zic_layouts.specs.declared.layout.AtFault.{AtFault}
use Rattle.zic_layouts.specs.declared.layout.AtFault.TheVariants as at
use Rattle.zic_layouts.specs.declared.layout.FieldCount.{FieldCount}
use Rattle.zic_layouts.specs.declared.layout.FieldCount.TheVariants as fields
use Rattle.zic_layouts.specs.declared.layout.Header.{Header}
use Rattle.zic_layouts.specs.declared.layout.Header.TheVariants as header
use Rattle.zic_layouts.specs.declared.layout.InstantText.TheVariants as texts
use Rattle.zic_layouts.specs.declared.layout.Layout.{Layout}
use Rattle.zic_layouts.specs.declared.layout.Quotes.{Quotes}
use Rattle.zic_layouts.specs.declared.layout.Quotes.TheVariants as quotes
use Rattle.zic_layouts.specs.declared.layout.Records.{Records}
use Rattle.zic_layouts.specs.declared.layout.Records.TheVariants as by
use Rattle.zic_layouts.specs.declared.layout.Notes.TheVariants as notes
use Rattle.zic_layouts.specs.declared.layout.RowStart.{RowStart}
use Rattle.zic_layouts.specs.declared.layout.RowStart.TheVariants as starts
use Rattle.zic_layouts.specs.declared.layout.Style.{Style}
use Rattle.zic_layouts.specs.declared.layout.Style.TheVariants as styles
use Rattle.zic_layouts.specs.declared.row_field.RowFields.{RowFields}
use Rattle.zic_layouts.specs.declared.row_field.RowFields.TheVariants as rows
use Rattle.zic_layouts.specs.declared.layout.TimeFrom.{TimeFrom}
use Rattle.zic_layouts.specs.declared.layout.TimeFrom.TheVariants as from
use Rattle.zic_layouts.specs.declared.layout.Unit.{Unit}
use Rattle.zic_layouts.specs.declared.layout.Unit.TheVariants as units
use Rattle.zic_layouts.specs.declared.layout.ZoneFrom.{ZoneFrom}
use Rattle.zic_layouts.specs.declared.layout.ZoneFrom.TheVariants as zone
use Rattle.pzic_files.specs.RowLayout.{before_zero, empty_number, field_number, line_end_number}
use Rattle.pzic_files.specs.declared.row_layout.RowLayout.{RowLayout}
use Rattle.pzic_files.specs.declared.layout.LayoutStop.{LayoutStop}
use Rattle.pzic_files.specs.declared.layout.LayoutStop.TheVariants as stop

-- how the field of a time has it
abbrev pub from_number : TimeFrom → ℕ
from_number from.Count = 0
from_number (from.Text texts.Rfc3339) = 1
from_number (from.Text texts.Utc) = 6
from_number (from.Text texts.Seconds) = 7
from_number (from.Local choice.Reject) = 2
from_number (from.Local choice.Earlier) = 3
from_number (from.Local choice.Later) = 4
from_number (from.Local choice.Compatible) = 5

-- what instants count
abbrev pub unit_number : Unit → ℕ
unit_number units.Second = 0
unit_number units.Millisecond = 1
unit_number units.Microsecond = 2
unit_number units.Nanosecond = 3

-- where records end
abbrev pub records_number : Records → ℕ
records_number by.Csv = 0
records_number by.Lines = 1

-- which double quotes a record may have
abbrev pub quotes_number : Quotes → ℕ
quotes_number quotes.Strict = 0
quotes_number quotes.Lenient = 1

-- whether there is a header
abbrev pub header_number : Header → ℕ
header_number header.Absent = 0
header_number header.First = 1
header_number header.Skipped = 2

-- what rows begin with
abbrev pub start_number : RowStart → ℕ
start_number starts.Fields = 0
start_number starts.Record = 1
start_number starts.Replaced = 2

-- what a row with a fault does
abbrev pub fault_number : AtFault → ℕ
fault_number at.End = 0
fault_number at.GoOn = 1
fault_number at.Reject = 2

-- how a row has its local time and its UT offset
abbrev pub style_number : Style → ℕ
style_number styles.Fields = 0
style_number styles.Iso = 1

-- rows have a list of fields, which have these numbers
abbrev pub AreListed : List ℕ → RowFields → Type 0
AreListed numbers (rows.Usual style) = ⊥
AreListed numbers (rows.Only fields) = (numbers ≡ map field_number fields) × (is_field_list fields ≡ true)

-- Which fields rows have: where there are no numbers of them, the usual ones in the style of a number; else those of the numbers, and the style
-- is the first.
abbrev pub AreFields : ℕ → List ℕ → RowFields → Type 0
AreFields n numbers (rows.Usual style) = (numbers ≡ []) × (n ≡ style_number style)
AreFields n numbers (rows.Only fields) = (n ≡ style_number styles.Fields) × AreListed numbers (rows.Only fields)

-- how many fields a record has: this number, or by 1 for `more` at least this number
abbrev pub IsFieldCount : ℕ → ℕ → FieldCount → Type 0
IsFieldCount n more (fields.Exactly count) = (more ≡ 0) × (n ≡ count)
IsFieldCount n more (fields.AtLeast count) = (more ≡ 1) × (n ≡ count)

-- the most bytes of a record: 0 sets no limit
abbrev pub IsLimit : ℕ → Option ℕ → Type 0
IsLimit n None = n ≡ 0
IsLimit n (Some most) = (n ≢ 0) × (n ≡ most)

-- where zones come from: a field, or a name, where that isn't empty
abbrev pub IsZoneFrom : ℕ → List ℕ → ZoneFrom → Type 0
IsZoneFrom n name (zone.Field index) = (name ≡ []) × (n ≡ index)
IsZoneFrom n name (zone.Name text) = (name ≡ [] → ⊥) × (name ≡ string_bytes text)

-- The parts of a layout by their numbers, of which those without a meaning are 0.
pub record HaveNumbers (given : RowLayout) (layout : Layout) : Type 0 where
  pub time : given.column.time ≡ layout.time
  pub count : IsFieldCount given.column.fields given.column.more_fields layout.count
  pub from : given.column.from ≡ from_number layout.from
  pub unit : given.column.unit ≡ unit_number layout.unit
  pub delimiter : given.column.delimiter ≡ layout.delimiter
  pub records : given.column.records ≡ records_number layout.records
  pub quotes : given.column.quotes ≡ quotes_number layout.quotes
  pub header : given.column.header ≡ header_number layout.header
  pub start : given.column.start ≡ start_number layout.start
  pub at_fault : given.column.at_fault ≡ fault_number layout.at_fault
  pub notes : layout.notes ≡ notes.Faults
  pub fields : AreFields given.column.style (before_zero given.only) layout.fields
  pub max_record : IsLimit given.column.max_record layout.max_record
  pub empty : given.empty ≡ empty_number layout.empty
  pub line_end : given.line_end ≡ line_end_number layout.line_end
  pub prefix : before_zero given.prefix ≡ layout.prefix
  pub reserved : list_all (λ n. n == 0) given.reserved ≡ true

-- The layout of these numbers, whose zones come from a field, or all are that of a name.
pub record IsLayoutOf (given : RowLayout) (name : List ℕ) (layout : Layout) : Type 0 where
  pub numbers : HaveNumbers given layout
  pub delimiter : is_delimiter layout.delimiter ≡ true
  pub prefix : is_prefix layout.prefix ≡ true
  pub zone : IsZoneFrom given.column.zone name layout.zone

-- No layout has the numbers, or the delimiter can't be one, or names can't begin with the prefix, or the name is no text.
abbrev pub HasNoLayout : RowLayout → List ℕ → Type 0
HasNoLayout given name =
    ((layout : Layout) → HaveNumbers given layout → ⊥) ⊎ (is_delimiter given.column.delimiter ≡ false)
    ⊎ (is_prefix (before_zero given.prefix) ≡ false) ⊎ (IsUtf8 name → ⊥)

-- there is no layout for this reason, or memory ran out
abbrev pub IsRefusal : Type 0 → LayoutStop → Type 0
IsRefusal P stop.None = P
IsRefusal P stop.Memory = Prim.Unit {0}
