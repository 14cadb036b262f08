use Rattle.zic_piece_rows.proofs.row.RowPen.push.Goals as goal

pub returns-in-Some : goal.returns-in-Some
returns-in-Some c = rw c.in-Some.is c.push_compared.ensures
