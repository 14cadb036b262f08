use Rattle.std.proofs.Common.{◌∙◌, ℕ, List, ap}
use Rattle.zic_layouts.specs.Noted.{RowNote}
use Rattle.zic_piece_rows.specs.LayoutRows.{if_rejected}
use Rattle.zic_piece_rows.proofs.note.note_of.Goals as goal

pub returns : goal.returns
returns c =
    let layout = c.args.piece.now.layout.now in
    let note : List ℕ → RowNote = λ own. record { fault = c.args.fault; own = own } in
    ap note (c.in_ok-own.ensures ∙ ap (λ (own : List ℕ). if_rejected layout.at_fault own) c.of.ensures)
