use Rattle.std.proofs.Common.{◌+◌, ◌∙◌, ap, sym}
use Rattle.std.specs.Prelude.{is_some}
use Rattle.zic_piece_rows.specs.PieceRows.{RowsOf}
use Rattle.zic_piece_rows.proofs.ComparedPairs.{pair_passed}
use Rattle.zic_piece_rows.proofs.row.Rows.add_compared_pair.Goals as goal

pub returns-then-batch-place-clause-next : goal.returns-then-batch-place-clause-next
returns-then-batch-place-clause-next c =
    let piece = c.args.piece.now in
    let q = c.self.inside in
    pair_passed piece (piece.first + c.args.self.now.count) c.args.batch.now c.args.place c.args.other.now c.requires.compared c.requires.other c.requires.at
    (c.requires.at.same c.requires.compared c.if-batch-place.true)
    c.args.self.now (record { text = q.text; count = q.count + 1; fault = q.fault; faults = q.faults.items }) (ap (λ (r : RowsOf). record r { count = r.count + 1 }) c.self.view_is)

pub returns-then-batch-place-clause-end : goal.returns-then-batch-place-clause-end
returns-then-batch-place-clause-end c = sym (ap is_some (ap (λ (r : RowsOf). r.fault) c.self.view_is ∙ c.requires.goes_on))
