-- The rows of a column in memory.
use Rattle.std.specs.Prelude.{◌≡◌, ◌⊎◌, ℕ, ◌+◌, List, [], ◌++◌, length, Option, Some, None, option_map}
use Rattle.std.specs.List.{concat}
use Rattle.zic_base.specs.declared.row_fault.RowKind.{RowKind}
use Rattle.zic_columns.specs.Own.{CsvRecord}
use Rattle.zic_convert.specs.By.{By}
use Rattle.zic_convert.specs.Column.{AreRowRecords, header_text, names_line}
use Rattle.zic_convert.specs.Header.{IsHeaderFault}
use Rattle.zic_convert.specs.declared.memory.LayoutRows.{LayoutRows}
use Rattle.zic_piece_rows.specs.LayoutRows.{RecordsConvertBy, faults_by}

-- The text of a column's header and of its rows, up to the first that ends the run, how many rows there are, the fault that ends the run, as
-- the row after them, or none, and what is noted of the rows before it that have one.
pub record AreRowsByLayout (by : By) (column : List ℕ) (rows : LayoutRows) : Type 0 where
  pub header : IsHeaderFault by column None
  pub row_records : List CsvRecord
  pub are : AreRowRecords by.layout column row_records
  pub texts : List (List ℕ)
  pub kind : Option RowKind
  pub come : RecordsConvertBy by.layout by.releases by.most_rows 1 row_records texts kind
  pub text : rows.text.items ≡ header_text by column ++ concat texts
  pub count : rows.count ≡ length texts
  pub fault : rows.fault ≡ option_map (λ kind. record { row = rows.count + 1; kind = kind }) kind
  pub faults : rows.faults.items ≡ faults_by by.layout by.releases.zones by.most_rows 1 row_records

-- The header has a fault, as row 0, which ends the run: there is only the line of names, and no row.
pub record IsEndAtHeader (by : By) (column : List ℕ) (rows : LayoutRows) : Type 0 where
  pub kind : RowKind
  pub header : IsHeaderFault by column (Some kind)
  pub text : rows.text.items ≡ names_line by.layout by.releases.old
  pub count : rows.count ≡ 0
  pub fault : rows.fault ≡ Some (record { row = 0; kind = kind })
  pub faults : rows.faults.items ≡ []

-- what a column in memory is converted to
abbrev pub IsConvertedTo : By → List ℕ → LayoutRows → Type 0
IsConvertedTo by column rows = AreRowsByLayout by column rows ⊎ IsEndAtHeader by column rows
