use Rattle.std.proofs.Common.{◌≡◌, ◌∷◌, [], ◌++◌, ◌∙◌, ◌+◌, ◌≤◌, List, None, ap, append_assoc, arith, drop, length, map, rules, subst, suc, sym, take}
use Rattle.std.specs.Prelude.{IsSome, slice_index_or}
use Rattle.std.proofs.lemmas.List.{map-append, take_more}
use Rattle.zic_columns.specs.Own.{CsvRecord}
use Rattle.zic_columns.specs.declared.splits.TheConstants.{BATCH}
use Rattle.zic_piece_rows.specs.code.Batch.{blank, record_of}
use Rattle.zic_piece_rows.specs.code.Row.{by_both, files_of}
use Rattle.zic_piece_rows.specs.PieceRows.{AreRowsOf, RowsOf}
use Rattle.zic_piece_rows.proofs.Columns.{is_at}
use Rattle.zic_piece_rows.proofs.MoreRows.{end_added, not_some, one_counted, records_at, row_added}
use Rattle.zic_piece_rows.proofs.row.Rows.add_all.Goals as goal

pub add-requires-clause-fits : goal.add-requires-clause-fits
add-requires-clause-fits c = omega (arith, c.requires.fits, c.loop-place.invariant.count, c.loop-place-test.true)

pub add-requires-clause-at : goal.add-requires-clause-at
add-requires-clause-at c = is_at c.args.piece.now c.args.batch.now c.args.count c.loop-place.place c.requires.columns (search rules) c.loop-place-test.true

pub returns-then-is_some-clause-rows : goal.returns-then-is_some-clause-rows
returns-then-is_some-clause-rows c = λ before are.
    let l = c.loop-place in
    let piece = c.args.piece.now in
    let releases = by_both piece (files_of c.args.other.now) in
    let records = c.args.batch.now.records in
    let f = record_of piece in
    let has : IsSome c.self.inside.fault = sym c.if-is_some.ensures in
    let some = subst IsSome (ap (λ (r : RowsOf). r.fault) c.self.view_is) has in
    let long : length records ≡ BATCH = search rules in
    let few : c.args.count ≤ length records = omega (arith, c.requires.columns.few, long) in
    let first = before ++ map f (take l.place records) in
    let rest = map f (drop (suc l.place) (take c.args.count records)) in
    let one = f (slice_index_or records l.place blank) in
    let all = end_added piece.layout.now releases piece.most piece.first first one l.self c.add.new.self (l.invariant.rows before are) l.invariant.none c.in_ok-add.ensures some rest in
    subst (λ (ws : List CsvRecord). AreRowsOf piece.layout.now releases piece.most piece.first ws c.add.new.self)
    (append_assoc before (map f (take l.place records)) (one ∷ rest) ∙ ap (λ (ws : List CsvRecord). before ++ ws) (sym (records_at f records c.args.count l.place blank few c.loop-place-test.true))) all

pub loop-place-preserved : goal.loop-place-preserved
loop-place-preserved c =
    let l = c.loop-place in
    let piece = c.args.piece.now in
    let releases = by_both piece (files_of c.args.other.now) in
    let records = c.args.batch.now.records in
    let f = record_of piece in
    let none : c.add.new.self.fault ≡ None =
    ap (λ (r : RowsOf). r.fault) (sym c.self.view_is) ∙ not_some c.self.inside.fault (λ has. absurd (cc (sym has ∙ sym c.if-is_some.ensures))) in
    let long : length records ≡ BATCH = search rules in
    let few : c.args.count ≤ length records = omega (arith, c.requires.columns.few, long) in
    let lt : l.place + 1 ≤ length records = omega (arith, few, c.loop-place-test.true) in
    let one = f (slice_index_or records l.place blank) in
    let next = c.in_ok-add.ensures in
    let counted = one_counted piece.layout.now releases piece.most (piece.first + l.self.count) one l.self c.add.new.self next none in
    let parts = ap (map f) (take_more records l.place blank (omega (arith, lt))) ∙ map-append f (take l.place records) (slice_index_or records l.place blank ∷ []) in
    record {
      none = none;
      count = omega (arith, counted, l.invariant.count);
      rows = λ before are.
          let all = row_added piece.layout.now releases piece.most piece.first (before ++ map f (take l.place records)) one l.self c.add.new.self (l.invariant.rows before are) l.invariant.none
          next none in
          subst (λ (ws : List CsvRecord). AreRowsOf piece.layout.now releases piece.most piece.first ws c.add.new.self)
          (append_assoc before (map f (take l.place records)) (one ∷ []) ∙ ap (λ (ws : List CsvRecord). before ++ ws) (sym parts)) all;
    }
