use Rattle.std.proofs.Common.{◌≡◌, length}
use Rattle.zic_columns.specs.declared.splits.TheConstants.{BATCH}
use Rattle.zic_piece_rows.specs.code.Answer.{AreTimes}
use Rattle.zic_piece_rows.proofs.time.read_times.Given as goal

abbrev pub invariant-loop-i : goal.invariant-loop-i
invariant-loop-i l = record {
  long : length l.times ≡ BATCH;
  read : AreTimes l.piece l.i l.records l.times;
}
