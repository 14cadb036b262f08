-- Laws of the lines of lists.
use Rattle.std.specs.Prelude.{◌≡◌, ◌++◌, ℕ, List, [], Option, Some}
use Rattle.csv.specs.Machine.{next_record}
use Rattle.csv.specs.Reading.{default_config}
use Rattle.csv.specs.declared.parser.State.TheVariants as st
use Rattle.zic_base.specs.declared.row_fault.RowFault.{RowFault}
use Rattle.zic_layouts.specs.declared.row_log.FaultDetail.{FaultDetail}
use Rattle.zic_io.specs.Faults.{fault_fields, fault_line}
use Rattle.zic_io.specs.declared.fault_line.FaultFields.{FaultFields}

-- The line of a fault reads back: a CSV reader gives just its fields (RFC 4180), and goes on with what stands after it.
abbrev pub FaultLinesReadBack : Type 0
FaultLinesReadBack =
    (fields : FaultFields) (fault : RowFault) (detail : Option FaultDetail) (rest : List ℕ)
    → next_record default_config st.StartRecord [] [] (fault_line fields fault detail ++ rest) ≡ Some (fault_fields fields fault detail, st.StartRecord, rest)
