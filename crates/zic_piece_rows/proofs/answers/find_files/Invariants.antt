use Rattle.std.proofs.Common.{◌≡◌, length}
use Rattle.zic_columns.specs.declared.splits.TheConstants.{BATCH}
use Rattle.zic_piece_rows.specs.code.Answer.{HaveFiles}
use Rattle.zic_piece_rows.proofs.answers.find_files.Given as goal

abbrev pub invariant-loop-i : goal.invariant-loop-i
invariant-loop-i l = record {
  long : length l.known ≡ BATCH;
  files : HaveFiles l.piece l.i l.records l.known;
}
