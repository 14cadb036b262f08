-- Where the record of a row with a fault begins, and which value is at fault: own choice. Lines are counted as `sed` and `grep` count them.
use Rattle.std.specs.Prelude.{◌==◌, ◌+◌, ◌-◌, ◌^◌, ℕ, List, [], filter, length, min, take}
use Rattle.zic_base.specs.declared.row_fault.RowKind.{RowKind}
use Rattle.zic_base.specs.declared.row_fault.RowKind.TheVariants as kind
use Rattle.zic_columns.specs.Own.{CsvRecord}
use Rattle.zic_layouts.specs.declared.layout.Layout.{Layout}
use Rattle.zic_zones.specs.Zones.{field_at, zone_in}

-- how many line feeds stand before an index of a piece
abbrev pub line_feeds_before : List ℕ → ℕ → ℕ
line_feeds_before piece at = length (filter (λ byte. byte == 10) (take at piece))

-- the number of the line where an index of a piece stands, with `before` line feeds before the piece: one more than the line feeds before it, up
-- to the greatest number of 64 bits
abbrev pub line_at : ℕ → List ℕ → ℕ → ℕ
line_at before piece at = min (before + line_feeds_before piece at + 1) (2 ^ 64 - 1)

-- the value at fault: of a zone without a file its name, of a fault of the time its field; no bytes where the fault isn't of one field
abbrev pub value_at_fault : Layout → RowKind → CsvRecord → List ℕ
value_at_fault layout kind.RowZone row_record = zone_in layout.zone row_record.fields
value_at_fault layout kind.RowInstant row_record = field_at row_record.fields layout.time
value_at_fault layout kind.RowLocal row_record = field_at row_record.fields layout.time
value_at_fault layout kind.RowRange row_record = field_at row_record.fields layout.time
value_at_fault layout kind.RowSkipped row_record = field_at row_record.fields layout.time
value_at_fault layout kind.RowRepeated row_record = field_at row_record.fields layout.time
value_at_fault layout _ row_record = []
