use Rattle.std.proofs.Common.{◌≡◌, length}
use Rattle.zic_columns.specs.declared.splits.TheConstants.{BATCH}
use Rattle.zic_piece_rows.specs.code.Pairs.{HaveNumber}
use Rattle.zic_piece_rows.proofs.pairs.find_states.Given as goal

abbrev pub invariant-loop-i : goal.invariant-loop-i
invariant-loop-i l = record {
  long : length l.numbers ≡ BATCH;
  found : HaveNumber l.piece l.i l.pairs l.files l.states.states l.numbers;
}
