use Rattle.std.proofs.Common.{◌∙◌, ◌∷◌, ◌++◌, ℕ, List, ap, arith, get_or}
use Rattle.zic_layouts.specs.declared.row_field.RowField.{RowField}
use Rattle.zic_layouts.specs.declared.row_field.RowField.TheVariants as row_field
use Rattle.zic_piece_rows.specs.code.Answer.{first_at, place_at, shown_in}
use Rattle.zic_piece_rows.specs.code.Row.{field_at_time}
use Rattle.zic_piece_rows.proofs.RowFields.{appended, left_alone}
use Rattle.zic_piece_rows.proofs.text.push_first_field.Goals as goal

pub remove-requires : goal.remove-requires
remove-requires c = let longer = appended c.args.text.now c.push_field.new.text _ _ c.in_ok-push_field.ensures in omega (arith, c.len-at.ensures, longer)

pub returns : goal.returns
returns c =
    let text = c.args.text.now in
    let piece = c.args.piece.now in
    let answer = c.args.answer.now in
    let d = piece.layout.now.delimiter in
    let field : List RowField → List ℕ = λ l. field_at_time (get_or l 0 row_field.Local) answer.time (shown_in answer.state) (place_at piece answer) in
    let pushed = c.in_ok-push_field.ensures ∙ ap (λ (l : List RowField). text ++ d ∷ field l) c.fields-fields.ensures.fields in
    left_alone text c.push_field.new.text (first_at piece answer) c.remove.new.self d c.len-at.result c.len-at.ensures pushed c.remove.ensures
