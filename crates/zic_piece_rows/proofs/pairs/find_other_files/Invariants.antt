use Rattle.std.proofs.Common.{◌≡◌, length}
use Rattle.zic_columns.specs.declared.splits.TheConstants.{BATCH}
use Rattle.zic_piece_rows.specs.code.Pairs.{HaveFile}
use Rattle.zic_piece_rows.proofs.pairs.find_other_files.Given as goal

abbrev pub invariant-loop-i : goal.invariant-loop-i
invariant-loop-i l = record {
  long : length l.files ≡ BATCH;
  found : HaveFile l.other l.i l.pairs l.files;
}
