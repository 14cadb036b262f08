use Rattle.std.proofs.Common.{◌≡◌, ◌<◌, ◌≤◌, ℕ, length}
use Rattle.std.specs.Prelude.{slice_index_or}
use Rattle.zic_columns.specs.declared.splits.TheConstants.{BATCH}
use Rattle.zic_piece_rows.specs.code.Answer.{AreAnswers, unknown}
use Rattle.zic_piece_rows.specs.code.Batch.{blank, zone_at}
use Rattle.zic_piece_rows.proofs.answers.Answers.find.Given as goal

abbrev pub invariant-loop-i : goal.invariant-loop-i
invariant-loop-i l = record {
  long : length l.self.known ≡ BATCH;
  files : l.self.states.files ≡ l.piece.zones.now;
  found : AreAnswers l.piece l.records l.times l.i l.self;
  left : (i : ℕ) → l.i ≤ i → i < l.count → (slice_index_or l.self.known i unknown).file ≡ zone_at l.piece (slice_index_or l.records i blank);
}
