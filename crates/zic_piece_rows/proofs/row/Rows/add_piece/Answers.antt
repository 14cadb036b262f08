use Rattle.std.proofs.Common.{◌≡◌, ◌≤◌, ◌+◌, ◌∙◌, None, ap, arith, length, length-append, subst, sym}
use Rattle.std.specs.Prelude.{is_some}
use Rattle.zic_piece_rows.specs.code.Row.{by_both, files_of}
use Rattle.zic_piece_rows.specs.PieceRows.{RowsOf}
use Rattle.zic_piece_rows.proofs.PieceRows.{all_counted, all_made, ended, far_after, far_at_first, none_by}
use Rattle.zic_piece_rows.proofs.row.Rows.add_piece.Goals as goal

pub loop-splitter-init : goal.loop-splitter-init
loop-splitter-init c =
    let piece = c.args.piece.now in
    let new = c.new-splitter.ensures in
    record {
      bound = subst (λ l. length l ≤ length piece.bytes.now + 1) new.left new.few;
      far = far_at_first piece (by_both piece (files_of c.args.other.now)) c.args.self.now c.new-splitter.result c.requires.none new.left
          (record { delimiter_is = new.delimiter; piece_is = new.piece; wanted_is = new.wanted ∙ c.wanted_by-wanted.ensures });
    }

pub add_next-requires-clause-fits : goal.add_next-requires-clause-fits
add_next-requires-clause-fits c =
    let l = c.loop-splitter in
    let piece = c.args.piece.now in
    let none : l.self.fault ≡ None = ap (λ (r : RowsOf). r.fault) (sym c.self.view_is) ∙ none_by c.self.inside.fault c.loop-splitter-test.ensures in
    omega (arith, c.requires.fits, l.invariant.bound, all_counted piece (by_both piece (files_of c.args.other.now)) l.self l.splitter l.invariant.far, l.invariant.far.counted none)

pub add_next-requires-clause-goes_on : goal.add_next-requires-clause-goes_on
add_next-requires-clause-goes_on c = ap (λ (r : RowsOf). r.fault) (sym c.self.view_is) ∙ none_by c.self.inside.fault c.loop-splitter-test.ensures

pub add_next-requires-clause-split : goal.add_next-requires-clause-split
add_next-requires-clause-split c = c.loop-splitter.invariant.far.split

pub loop-splitter-smaller : goal.loop-splitter-smaller
loop-splitter-smaller c =
    let next = c.in_ok-count.ensures.next in
    omega (arith, c.if-count-eq0.false, ap length next.parts, length-append next.next c.add_next.new.splitter.left, next.long)

pub loop-splitter-preserved : goal.loop-splitter-preserved
loop-splitter-preserved c =
    let l = c.loop-splitter in
    let piece = c.args.piece.now in
    let none : l.self.fault ≡ None = ap (λ (r : RowsOf). r.fault) (sym c.self.view_is) ∙ none_by c.self.inside.fault c.loop-splitter-test.ensures in
    record {
      bound = l.invariant.bound;
      far = far_after piece (by_both piece (files_of c.args.other.now)) l.self l.splitter l.invariant.far c.add_next.new.self c.add_next.new.splitter c.in_ok-count.count none
          c.in_ok-count.ensures.next c.in_ok-count.ensures.split;
    }

pub returns-then-count-eq0 : goal.returns-then-count-eq0
returns-then-count-eq0 c =
    let l = c.loop-splitter in
    let piece = c.args.piece.now in
    let releases = by_both piece (files_of c.args.other.now) in
    let none : l.self.fault ≡ None = ap (λ (r : RowsOf). r.fault) (sym c.self.view_is) ∙ none_by c.self.inside.fault c.loop-splitter-test.ensures in
    let far = far_after piece releases l.self l.splitter l.invariant.far c.add_next.new.self c.add_next.new.splitter c.in_ok-count.count none
    c.in_ok-count.ensures.next c.in_ok-count.ensures.split in
    all_made piece releases c.add_next.new.self c.add_next.new.splitter far (c.in_ok-count.ensures.end c.if-count-eq0.true)

pub returns : goal.returns
returns c =
    let l = c.loop-splitter in
    let piece = c.args.piece.now in
    ended piece (by_both piece (files_of c.args.other.now)) l.self l.splitter l.invariant.far (ap (λ (r : RowsOf). is_some r.fault) (sym c.self.view_is) ∙ c.loop-splitter-test.ensures)
