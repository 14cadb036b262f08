use Rattle.std.proofs.Common.{◌≡◌, ◌∙◌, ◌+◌, ◌≤◌, None, arith, length, rules, sym}
use Rattle.zic_columns.specs.declared.splits.TheConstants.{BATCH}
use Rattle.zic_piece_rows.specs.code.Pairs.{pair_in, pair_of}
use Rattle.zic_piece_rows.specs.code.Row.{by_both}
use Rattle.zic_piece_rows.proofs.MoreRows.{one_counted}
use Rattle.zic_piece_rows.proofs.PairRows.{pair_added, pair_ended}
use Rattle.zic_piece_rows.proofs.PieceRows.{none_by}
use Rattle.zic_piece_rows.proofs.PlainPairs.{pair_at}
use Rattle.zic_piece_rows.proofs.row.Rows.add_pairs_in.Goals as goal

pub add_pair-requires-clause-fits : goal.add_pair-requires-clause-fits
add_pair-requires-clause-fits c = omega (arith, c.requires.fits, c.loop-place.invariant.count, c.loop-place-test.true)

pub add_pair-requires-clause-at : goal.add_pair-requires-clause-at
add_pair-requires-clause-at c =
    let l = c.loop-place in
    let piece = c.args.piece.now in
    pair_at piece None (piece.first + c.args.self.now.count) c.args.count l.place (piece.first + l.self.count) c.args.batch.now c.requires.columns c.loop-place-test.true (omega (arith, l.invariant.count))

pub returns-then-is_end-clause-rows : goal.returns-then-is_end-clause-rows
returns-then-is_end-clause-rows c =
    let l = c.loop-place in
    let piece = c.args.piece.now in
    let pairs = c.args.batch.now.pairs.places in
    let long : length pairs ≡ BATCH = search rules in
    let few : c.args.count ≤ length pairs = omega (arith, c.requires.columns.pairs.few, long) in
    pair_ended piece (by_both piece None) pairs c.args.count l.place few c.loop-place-test.true c.args.self.now l.self c.add_pair.new.self l.invariant.rows l.invariant.none c.in_ok-is_end.ensures.next
    (sym c.in_ok-is_end.ensures.end ∙ c.if-is_end.true)

pub loop-place-preserved : goal.loop-place-preserved
loop-place-preserved c =
    let l = c.loop-place in
    let piece = c.args.piece.now in
    let releases = by_both piece None in
    let pairs = c.args.batch.now.pairs.places in
    let none = none_by c.add_pair.new.self.fault (sym c.in_ok-is_end.ensures.end ∙ c.if-is_end.false) in
    let long : length pairs ≡ BATCH = search rules in
    let few : c.args.count ≤ length pairs = omega (arith, c.requires.columns.pairs.few, long) in
    let next = c.in_ok-is_end.ensures.next in
    let counted = one_counted piece.layout.now releases piece.most (piece.first + l.self.count) (pair_of piece (pair_in pairs l.place)) l.self c.add_pair.new.self next none in
    record {
      none = none;
      count = omega (arith, counted, l.invariant.count);
      rows = pair_added piece releases pairs c.args.count l.place few c.loop-place-test.true c.args.self.now l.self c.add_pair.new.self l.invariant.rows l.invariant.none next none;
    }
