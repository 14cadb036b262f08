use Rattle.std.proofs.Common.{ap, subst, sym, ◌∙◌}
use Rattle.std.specs.Prelude.{IsSome}
use Rattle.zic_convert.specs.code.Pieces.{Pieces}
use Rattle.zic_piece_rows.specs.PieceRows.{RowsOf}
use Rattle.zic_convert.proofs.pieces.RowPiecesTask.perform.Goals as goal

pub returns-then-is_some : goal.returns-then-is_some
returns-then-is_some g c =
    let has : IsSome c.rows.inside.fault = sym c.if-is_some.ensures in
    (ap (λ (p : Pieces). p.stops) (sym c.self.view_is) ∙ c.if-self.true, c.in-Ok.rows, c.in-Ok.ensures, subst IsSome (ap (λ (r : RowsOf). r.fault) c.rows.view_is) has)
