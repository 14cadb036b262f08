-- How a column is read, and what its rows are: own choice.
use Rattle.std.specs.Prelude.{◌≡◌, ℕ, Bool, None, List, [], ◌∷◌, string_bytes, ◌==◌, nat_le}
use Rattle.zic_layouts.specs.declared.layout.AtFault.TheVariants as at
use Rattle.zic_layouts.specs.declared.layout.Layout.{Layout}
use Rattle.zic_layouts.specs.declared.layout.EmptyTime.TheVariants as empty
use Rattle.zic_layouts.specs.declared.layout.FieldCount.{FieldCount}
use Rattle.zic_layouts.specs.declared.layout.FieldCount.TheVariants as fields
use Rattle.zic_layouts.specs.declared.layout.Header.{Header}
use Rattle.zic_layouts.specs.declared.layout.Header.TheVariants as header
use Rattle.zic_layouts.specs.declared.layout.Records.TheVariants as by
use Rattle.zic_layouts.specs.declared.layout.LineEnd.{LineEnd}
use Rattle.zic_layouts.specs.declared.layout.LineEnd.TheVariants as ends
use Rattle.zic_layouts.specs.declared.layout.Quotes.TheVariants as quotes
use Rattle.zic_layouts.specs.declared.layout.RowStart.TheVariants as starts
use Rattle.zic_layouts.specs.declared.layout.Style.TheVariants as styles
use Rattle.zic_layouts.specs.declared.layout.TimeFrom.TheVariants as times
use Rattle.zic_layouts.specs.declared.layout.Unit.TheVariants as units
use Rattle.zic_layouts.specs.declared.layout.ZoneFrom.{ZoneFrom}
use Rattle.zic_layouts.specs.declared.layout.ZoneFrom.TheVariants as from
use Rattle.zic_layouts.specs.declared.row_field.RowFields.TheVariants as rows

-- a record has as many fields
abbrev pub has_count : FieldCount → ℕ → Bool
has_count (fields.Exactly n) count = count == n
has_count (fields.AtLeast n) count = nat_le n count

-- the number of records before those that make rows
abbrev pub records_before : Header → ℕ
records_before header.Absent = 0
records_before header.First = 1
records_before header.Skipped = 1

-- the bytes of a line end
abbrev pub line_end_bytes : LineEnd → List ℕ
line_end_bytes ends.Lf = 10 ∷ []
line_end_bytes ends.CrLf = 13 ∷ 10 ∷ []

-- zones come from the same field, or are of the same name
abbrev pub AreSameZones : ZoneFrom → ZoneFrom → Type 0
AreSameZones (from.Field index) (from.Field other) = other ≡ index
AreSameZones (from.Name name) (from.Name other) = string_bytes other ≡ string_bytes name
AreSameZones _ _ = ⊥

-- the same layout, but that an empty time is a fault
abbrev pub IsUnkept : Layout → Layout → Type 0
IsUnkept layout other = (zone : ZoneFrom) × AreSameZones layout.zone zone × (other ≡ record layout { zone = zone; empty = empty.Fault })

-- A record is one of CSV, of any length and with any double quotes, and has two fields, the name of a zone and seconds, with a comma between them. Each row is
-- written, begins with these fields, and has local time and UT offset in two more, and the first fault ends the conversion.
pub record HasPlainRows (layout : Layout) : Type 0 where
  pub zone : layout.zone ≡ from.Field 0
  pub time : layout.time ≡ 1
  pub from : layout.from ≡ times.Count
  pub count : layout.count ≡ fields.Exactly 2
  pub unit : layout.unit ≡ units.Second
  pub delimiter : layout.delimiter ≡ 44
  pub records : layout.records ≡ by.Csv
  pub quotes : layout.quotes ≡ quotes.Lenient
  pub max_record : layout.max_record ≡ None
  pub start : layout.start ≡ starts.Fields
  pub line_end : layout.line_end ≡ ends.Lf
  pub fields : layout.fields ≡ rows.Usual styles.Fields
  pub empty : layout.empty ≡ empty.Fault
  pub at_fault : layout.at_fault ≡ at.End
