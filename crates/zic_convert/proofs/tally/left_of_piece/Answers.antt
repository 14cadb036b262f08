use Rattle.std.proofs.Common.{◌<◌, List, Some, length, ap, subst, arith}
use Rattle.zic_layouts.specs.Noted.{RowNote}
use Rattle.zic_convert.specs.Run.{IsOneTooMany}
use Rattle.zic_piece_rows.specs.PieceRows.{RowsOf}
use Rattle.zic_convert.proofs.TooMany.{one_at}
use Rattle.zic_convert.proofs.tally.left_of_piece.Goals as goal

pub returns-then-left-faults-clause-err : goal.returns-then-left-faults-clause-err
returns-then-left-faults-clause-err c =
    let faults = c.rows.inside.faults.items in
    let fault = c.behind-rows.inside.fault in
    let lt : c.args.left < length faults = omega (arith, c.if-left-faults.true, c.len-faults.ensures) in
    subst (λ (l : List RowNote). (before : List RowNote) × IsOneTooMany (Some c.args.left) l fault.row fault.kind before) (ap (λ (r : RowsOf). r.faults) c.rows.view_is)
    (one_at faults c.args.left c.index.result.now lt c.index.ensures fault (ap (λ (n : RowNote). n.fault) c.behind-rows.view_is))
