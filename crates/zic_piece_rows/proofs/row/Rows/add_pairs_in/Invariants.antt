use Rattle.std.proofs.Common.{◌≡◌, ◌+◌, None}
use Rattle.zic_piece_rows.specs.code.Row.{by_both}
use Rattle.zic_piece_rows.proofs.PairRows.{AreWith}
use Rattle.zic_piece_rows.proofs.row.Rows.add_pairs_in.Given as goal

abbrev pub invariant-loop-place : goal.invariant-loop-place
invariant-loop-place l = record {
  none : l.self.fault ≡ None;
  count : l.self.count ≡ l.fn.self.count + l.place;
  rows : AreWith l.piece (by_both l.piece None) l.batch.pairs.places l.fn.self l.place l.self;
}
