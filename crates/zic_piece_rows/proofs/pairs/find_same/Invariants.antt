use Rattle.std.proofs.Common.{◌≡◌, length}
use Rattle.zic_columns.specs.declared.splits.TheConstants.{BATCH}
use Rattle.zic_piece_rows.specs.code.Pairs.{AreAlike, HaveSame}
use Rattle.zic_piece_rows.proofs.pairs.find_same.Given as goal

abbrev pub invariant-loop-i : goal.invariant-loop-i
invariant-loop-i l = record {
  long : length l.same ≡ BATCH;
  alike : AreAlike l.shown l.others l.alike;
  found : HaveSame l.shown l.others l.i l.same;
}
