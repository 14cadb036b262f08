use Rattle.std.proofs.Common.{◌∙◌, ◌∷◌, ◌++◌, ℕ, List, FitsSigned, ap, append_assoc, rules, to_z-of_z, w32}
use Rattle.std.proofs.lemmas.Result.{on_ok_weaker}
use Rattle.zic_row_text.specs.Row.{iso_offset_text}
use Rattle.zic_piece_rows.specs.code.Answer.{shown_in}
use Rattle.zic_piece_rows.specs.code.Row.{clock_at}
use Rattle.zic_piece_rows.proofs.text.push_field.Goals as goal

pub returns-in_ok-push_clock-in-Time : goal.returns-in_ok-push_clock-in-Time
returns-in_ok-push_clock-in-Time c =
    let answer = c.args.answer.now in
    let d = c.args.piece.now.layout.now.delimiter in
    let offset = (shown_in answer.state).offset in
    let small : FitsSigned w32 c.offset-in-Time.result = search rules in
    let clock = rw (c.byte-delimiter.ensures.byte, to_z-of_z small, c.offset-in-Time.ensures.value, c.text-state.ensures) at c.in_ok-push_clock-in-Time.ensures in
    let pushed = rw (c.iso_offset_text.ensures, c.text-state.ensures) at c.push.ensures in
    rw c.in-Time.is (on_ok_weaker c.push.result
    (λ is. is ∙ ap (λ (l : List ℕ). l ++ iso_offset_text offset) clock ∙ append_assoc c.args.text.now (d ∷ clock_at answer.time offset) (iso_offset_text offset))
    pushed)
