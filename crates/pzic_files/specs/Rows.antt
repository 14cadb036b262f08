-- What the calls on rows return. Own choice.
use Rattle.std.specs.Prelude.{◌≡◌, ℕ, ◌+◌, ℤ, List, [], Option, Some, None, IsSomeAnd}
use Rattle.zic_convert.specs.Column.{AreRowsOfColumn}
use Rattle.zic_files.specs.File.{File}
use Rattle.zic_base.specs.RowFault.{row_kind_number}
use Rattle.zic_layouts.specs.declared.plan.TheConstants.{MAX_ROWS}
use Rattle.zic_base.specs.declared.row_fault.RowKind.{RowKind}
use Rattle.pzic_zones.specs.Handle.{rows_of}
use Rattle.pzic_zones.specs.declared.held.Held.{Held}
use Rattle.pzic_zones.specs.declared.column.Made.{Made}
use Rattle.pzic_zones.specs.declared.column.RowFault.{RowFault}
use Rattle.pzic_zones.specs.declared.status.TheConstants.{OK, NO_MEMORY, BAD_ROW}

-- The status and the fault say whether the row after this number of rows has a fault: its number and its kind. If it has none, the fault stays as it was.
abbrev pub IsRowFaultGiven : Option RowKind → ℕ → ℤ → RowFault → RowFault → Type 0
IsRowFaultGiven None count status before reported = (status ≡ OK) × (reported ≡ before)
IsRowFaultGiven (Some kind) count status before reported = (status ≡ BAD_ROW) × (reported.row ≡ count + 1) × (reported.kind ≡ row_kind_number kind)

-- They are the column's rows up to the first that has a fault, which is returned; the handle holds no fault of them.
abbrev pub AreRowsMade : List File → List ℕ → ℤ → RowFault → RowFault → Made → Type 0
AreRowsMade files column status before reported made =
    (fault : Option RowKind) × AreRowsOfColumn files MAX_ROWS column made.text.items made.count fault × IsRowFaultGiven fault made.count status before reported
    × (made.faults.items ≡ [])

-- The handle holds the column's rows up to the first that has a fault; or memory ran out, and it holds nothing.
abbrev pub AreRowsGiven : List File → List ℕ → ℤ → RowFault → RowFault → Option Held → Type 0
AreRowsGiven files column status before reported (Some held) = IsSomeAnd (rows_of held) (AreRowsMade files column status before reported)
AreRowsGiven files column status before reported None = (status ≡ NO_MEMORY) × (reported ≡ before)
