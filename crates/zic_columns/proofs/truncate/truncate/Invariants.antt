use Rattle.std.proofs.Common.{◌≡◌, ◌≤◌, ◌++◌, ℕ, List, take, drop}
use Rattle.zic_columns.specs.Truncated.{truncated_from}
use Rattle.zic_columns.proofs.truncate.truncate.Given as goal

-- what stays of the bytes before the index stands at the front, and those after it are yet to be truncated
abbrev pub invariant-loop-i : goal.invariant-loop-i
invariant-loop-i l = record {
  few : l.len ≤ l.i;
  stay : (rest : List ℕ) → truncated_from l.most l.fn.room (l.fn.bytes ++ rest) ≡ take l.len l.bytes ++ truncated_from l.most l.room (drop l.i l.bytes ++ rest);
}
