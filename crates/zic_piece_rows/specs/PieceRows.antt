-- The rows of a piece of a column.
use Rattle.std.specs.Prelude.{◌≡◌, ℕ, List, [], length, Option, None}
use Rattle.std.specs.List.{concat}
use Rattle.zic_columns.specs.Own.{CsvRecord}
use Rattle.zic_layouts.specs.declared.layout.Layout.{Layout}
use Rattle.zic_layouts.specs.Noted.{RowNote}
use Rattle.zic_base.specs.declared.row_fault.RowKind.{RowKind}
use Rattle.zic_zones.specs.declared.zones.Releases.{Releases}
use Rattle.zic_piece_rows.specs.LayoutRows.{RecordsConvertBy, faults_by}

-- the text of some rows, how many there are, the fault of the row after them that ends the run, or none, and the faults that they have
pub record RowsOf : Type 0 where
  pub text : List ℕ
  pub count : ℕ
  pub fault : Option RowKind
  pub faults : List RowNote

-- none
abbrev pub empty_rows : RowsOf
empty_rows = record { text = []; count = 0; fault = None; faults = [] }

-- the outcome of these records, by a layout, the first of which is the row of this number
pub record AreRowsOf (layout : Layout) (releases : Releases) (most first : ℕ) (row_records : List CsvRecord) (rows : RowsOf) : Type 0 where
  pub texts : List (List ℕ)
  pub come : RecordsConvertBy layout releases most first row_records texts rows.fault
  pub text : rows.text ≡ concat texts
  pub count : rows.count ≡ length texts
  pub faults : rows.faults ≡ faults_by layout releases.zones most first row_records
