use Rattle.zic_convert.specs.code.Pieces.{AreRowsOfPiece, Pieces}
use Rattle.zic_convert.proofs.Joining.{on_ok, rows_of_bytes}
use Rattle.zic_convert.proofs.pieces.RowPieces.piece_rows.Goals as goal

pub returns : goal.returns
returns g c =
    let q = c.self.inside in
    let p : Pieces = record { layout = q.layout.now; releases = q.releases.now; pieces = q.round; first = q.first; most = q.most; size = q.size; stops = q.stops } in
    rw (← c.self.view_is) (on_ok c.rows_of_piece.result _ (AreRowsOfPiece p c.args.i) (λ rows are. rows_of_bytes p c.args.i _ rows c.piece.ensures are) c.rows_of_piece.ensures)
