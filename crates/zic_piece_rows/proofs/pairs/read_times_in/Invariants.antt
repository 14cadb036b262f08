use Rattle.std.proofs.Common.{◌≡◌, length}
use Rattle.zic_columns.specs.declared.splits.TheConstants.{BATCH}
use Rattle.zic_piece_rows.specs.code.Pairs.{HaveTime}
use Rattle.zic_piece_rows.proofs.pairs.read_times_in.Given as goal

abbrev pub invariant-loop-i : goal.invariant-loop-i
invariant-loop-i l = record {
  long : length l.times ≡ BATCH;
  read : HaveTime l.piece l.i l.pairs l.times;
}
