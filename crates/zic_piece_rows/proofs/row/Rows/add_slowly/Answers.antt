use Rattle.std.proofs.Common.{◌≡◌, ◌+◌, ◌++◌, ◌∙◌, List, Some, ap, arith, length, length-append, refl, subst, sym, ℕ}
use Rattle.zic_piece_rows.specs.LayoutRows.{IsWrittenBy, ended}
use Rattle.zic_piece_rows.specs.PieceRows.{RowsOf}
use Rattle.zic_piece_rows.specs.code.Batch.{record_of}
use Rattle.zic_piece_rows.specs.code.Row.{AreNextBy, by_both, files_of}
use Rattle.zic_piece_rows.proofs.LineEnds.{row_ended}
use Rattle.zic_piece_rows.proofs.NextRows.{next_more, next_sound}
use Rattle.zic_piece_rows.proofs.Written.{fault_is}
use Rattle.zic_piece_rows.proofs.row.Rows.add_slowly.Goals.{in-Some+else-ends_run+in_ok-note, in_default}
use Rattle.zic_piece_rows.proofs.row.Rows.add_slowly.Goals as goal

pub end_row-requires : goal.end_row-requires
end_row-requires c =
    let (row, text, by) = c.in_ok-push.ensures in
    omega (arith, c.len-start.ensures, ap length text, length-append c.self-2.inside.text row)

pub returns : goal.returns
returns c =
    let piece = c.args.piece.now in
    let layout = piece.layout.now in
    let releases = by_both piece (files_of c.args.other.now) in
    let old = c.args.self.now in
    let number = piece.first + c.self.inside.count in
    let given = c.args.found.given.now in
    let row_record = record_of piece given in
    let answer = c.in_ok-answer.answer in
    let is = c.in_ok-answer.ensures in
    let fault = fault_is piece number given answer is ∙ sym c.fault_of.ensures in
    let q = c.self-2.inside in
    let f : List ℕ → RowsOf → RowsOf = λ row s. record { text = s.text ++ row; count = s.count + 1; fault = s.fault; faults = s.faults } in
    let with_text : List ℕ → RowsOf = λ text. record { text = text; count = q.count + 1; fault = q.fault; faults = q.faults.items } in
    let (whole, pushed, by) = c.in_ok-push.ensures in
    let row = ended layout.line_end whole in
    let text = row_ended layout.line_end q.text whole c.push.new.text _ pushed (rw c.len-start.ensures at c.in_ok-end_row.ensures) in
    let new = with_text c.end_row.new.text in
    let written : IsWrittenBy layout releases piece.most number row_record row = record { row = whole; is_row = by; is = refl } in
    let made : new ≡ f row c.match-fault_of.self = ap with_text text ∙ ap (f row) c.self-2.view_is in
    let next : AreNextBy layout releases piece.most number row_record old new = elim c.match-fault_of.branch [
      | in-Some+else-ends_run+in_ok-note w ↦ next_more layout releases piece.most number row_record old new (Some w.in-Some.kind) (fault ∙ w.in-Some.is) (w.if-ends_run.ensures.goes_on refl) row written
          (made ∙ ap (f row) (w.self-is ∙ w.in_ok-note.ensures))
      | in_default w ↦ next_sound layout releases piece.most number row_record old new (fault ∙ w.in_default.is) row written (made ∙ ap (f row) w.self-is)
    ] in
    subst (λ (k : ℕ). AreNextBy layout releases piece.most (piece.first + k) row_record old new) (ap (λ (r : RowsOf). r.count) c.self.view_is) next
