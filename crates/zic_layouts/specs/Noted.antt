-- What is noted of a row with a fault: own choice.
use Rattle.std.specs.Prelude.{ℕ, List}
use Rattle.zic_base.specs.declared.row_fault.RowFault.{RowFault}

-- the number of the row and its fault, and the own bytes of its record, where that is rejected
pub record RowNote : Type 0 where
  pub fault : RowFault
  pub own : List ℕ
