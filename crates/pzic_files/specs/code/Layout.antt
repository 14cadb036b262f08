-- The parts of a layout that own nothing.
use Rattle.std.specs.Prelude.{◌≡◌, ◌==◌, true}
use Rattle.std.specs.List.{list_all}
use Rattle.pzic_files.specs.Layout.{IsFieldCount, fault_number, from_number, header_number, quotes_number, records_number, start_number, unit_number}
use Rattle.pzic_files.specs.RowLayout.{empty_number, line_end_number}
use Rattle.pzic_files.specs.declared.layout.Forms.{Forms}
use Rattle.pzic_files.specs.declared.row_layout.RowLayout.{RowLayout}

-- they are those of the numbers
pub record AreForms (given : RowLayout) (forms : Forms) : Type 0 where
  pub count : IsFieldCount given.column.fields given.column.more_fields forms.count
  pub from : given.column.from ≡ from_number forms.from
  pub unit : given.column.unit ≡ unit_number forms.unit
  pub records : given.column.records ≡ records_number forms.records
  pub quotes : given.column.quotes ≡ quotes_number forms.quotes
  pub header : given.column.header ≡ header_number forms.header
  pub start : given.column.start ≡ start_number forms.start
  pub at_fault : given.column.at_fault ≡ fault_number forms.at_fault
  pub empty : given.empty ≡ empty_number forms.empty
  pub line_end : given.line_end ≡ line_end_number forms.line_end
  pub reserved : list_all (λ n. n == 0) given.reserved ≡ true
