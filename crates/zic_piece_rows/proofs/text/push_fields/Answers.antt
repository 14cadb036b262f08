use Rattle.std.proofs.Common.{◌≡◌, ◌∙◌, ◌∷◌, ◌++◌, ℕ, List, ap, append_assoc, sym}
use Rattle.std.specs.Fmt.{signed_decimal}
use Rattle.std.proofs.lemmas.Result.{on_ok_weaker}
use Rattle.zic_layouts.specs.declared.row_field.RowField.{RowField}
use Rattle.zic_row_text.specs.Row.{state_text}
use Rattle.zic_piece_rows.specs.code.Answer.{answer_at, fields_in, place_at, shown_in}
use Rattle.zic_piece_rows.specs.code.Row.{time_count}
use Rattle.zic_piece_rows.proofs.RowFields.{all_compared}
use Rattle.zic_piece_rows.proofs.UsualRows.{local_rest}
use Rattle.zic_piece_rows.proofs.text.push_fields.Goals as goal

pub returns-then-has_usual_local : goal.returns-then-has_usual_local
returns-then-has_usual_local c =
    let piece = c.args.piece.now in
    let answer = c.args.answer.now in
    let d = piece.layout.now.delimiter in
    let state = shown_in answer.state in
    let usual = c.has_usual_local.ensures c.if-has_usual_local.true in
    let same : answer_at piece (fields_in piece) answer ≡ (d ∷ signed_decimal (time_count answer.time)) ++ state_text d state =
    ap (λ (l : List RowField). answer_at piece l answer) usual ∙ local_rest d answer.time state (place_at piece answer) in
    let pushed = rw (c.byte.ensures.byte, c.text.ensures) at c.push_state.ensures in
    on_ok_weaker c.push_state.result
    (λ is. is ∙ ap (λ (l : List ℕ). l ++ state_text d state) c.in_ok-push_field.ensures ∙ append_assoc c.args.text.now (d ∷ signed_decimal (time_count answer.time)) (state_text d state)
    ∙ ap (λ (l : List ℕ). c.args.text.now ++ l) (sym same))
    pushed

pub returns : goal.returns
returns c = rw (all_compared (fields_in c.args.piece.now)) at c.push_answer.ensures
