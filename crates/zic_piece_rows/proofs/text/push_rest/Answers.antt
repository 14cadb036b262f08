use Rattle.std.proofs.Common.{◌≡◌, ◌∙◌, List, ap}
use Rattle.zic_layouts.specs.declared.row_field.RowField.{RowField}
use Rattle.zic_row_text.specs.Count.{timed_rest_text}
use Rattle.zic_piece_rows.specs.code.Answer.{answer_at, following_in, place_at, shown_in}
use Rattle.zic_piece_rows.proofs.UsualRows.{usual_rest}
use Rattle.zic_piece_rows.proofs.text.push_rest.Goals as goal

pub returns : goal.returns
returns c =
    let piece = c.args.piece.now in
    let answer = c.args.answer.now in
    let d = piece.layout.now.delimiter in
    let style = c.in-Some.style in
    let usual = rw c.in-Some.is at c.usual_style.ensures in
    let same : answer_at piece (following_in piece) answer ≡ timed_rest_text d style answer.time.unit answer.time.second answer.time.fraction (shown_in answer.state) =
    ap (λ (l : List RowField). answer_at piece l answer) usual ∙ usual_rest d style answer.time (shown_in answer.state) (place_at piece answer) in
    rw same (rw (c.byte.ensures.byte, c.text.ensures) at c.push_row.ensures)
