-- The fault of a column's header: own choice. Rows count from 1, and row 0 is the header.
use Rattle.std.specs.Prelude.{◌≡◌, ℕ, List, [], ◌∷◌, take, Option, Some, None}
use Rattle.zic_base.specs.declared.row_fault.RowKind.{RowKind}
use Rattle.zic_base.specs.declared.row_fault.RowKind.TheVariants as kind
use Rattle.zic_columns.specs.Own.{CsvRecord}
use Rattle.zic_files.specs.File.{File}
use Rattle.zic_layouts.specs.Layout.{records_before}
use Rattle.zic_layouts.specs.declared.layout.EmptyTime.TheVariants as empty
use Rattle.zic_layouts.specs.declared.layout.Layout.{Layout}
use Rattle.zic_convert.specs.By.{By}
use Rattle.zic_convert.specs.Column.{read_by, records_read}
use Rattle.zic_piece_rows.specs.LayoutRows.{fault_by}

-- Why a record is no header, if it is none, by the fault that it would have as a row. Without a fault it is a row, since it names a zone and
-- has a time; so it is where only the time can't be answered. An empty time is no time here, also where rows keep it: a header may have a field
-- without a name. A header may not have more bytes than a record either, nor double quotes that a record may not have.
abbrev pub header_kind : Option RowKind → Option RowKind
header_kind None = Some kind.HeaderIsRow
header_kind (Some kind.RowRange) = Some kind.HeaderIsRow
header_kind (Some kind.RowSkipped) = Some kind.HeaderIsRow
header_kind (Some kind.RowRepeated) = Some kind.HeaderIsRow
header_kind (Some kind.RowTooLong) = Some kind.RowTooLong
header_kind (Some kind.RowQuote) = Some kind.RowQuote
header_kind (Some _) = None

-- the layout, but that an empty time is a fault
abbrev pub unkept : Layout → Layout
unkept layout = record layout { empty = empty.Fault }

-- the fault of the first of these records as a header, or none
abbrev pub header_fault : Layout → List File → List CsvRecord → Option RowKind
header_fault layout files [] = None
header_fault layout files (first ∷ others) = header_kind (fault_by (unkept layout) files 0 0 first)

-- the fault of the header of a column, by the bytes that are read of it, or none, as where it has no header
abbrev pub fault_read : Layout → List File → List ℕ → Option RowKind
fault_read layout files bytes = header_fault layout files (take (records_before layout.header) (records_read layout bytes))

-- and of a column
abbrev pub IsHeaderFault : By → List ℕ → Option RowKind → Type 0
IsHeaderFault by column fault = fault ≡ fault_read by.layout by.releases.zones (read_by by.layout column)
