use Rattle.std.proofs.Common.{◌≡◌, ◌∙◌, ◌+◌, ◌∷◌, ◌++◌, [], ℕ, List, ap, append-nil, append_assoc, drop, length, sym}
use Rattle.std.proofs.lemmas.Result.{on_ok_weaker}
use Rattle.std.proofs.lemmas.List.{drop_all, drop_more, take_rest}
use Rattle.std.specs.List.{flat_map}
use Rattle.std.specs.Prelude.{slice_range}
use Rattle.zic_layouts.specs.declared.row_field.RowField.{RowField}
use Rattle.zic_piece_rows.specs.code.Answer.{fields_in, place_at, shown_in}
use Rattle.zic_piece_rows.specs.code.Row.{field_at_time}
use Rattle.zic_piece_rows.proofs.text.push_others.Goals as goal

pub loop-field-preserved : goal.loop-field-preserved
loop-field-preserved c =
    let answer = c.args.answer.now in
    let piece = c.args.piece.now in
    let l = c.loop-field in
    let fields = c.fields-fields.result.now in
    let items = slice_range fields 1 (length fields) in
    let F : RowField → List ℕ = λ f. piece.layout.now.delimiter ∷ field_at_time f answer.time (shown_in answer.state) (place_at piece answer) in
    let rest = flat_map F (drop (l.field-index + 1) items) in
    ap (λ (t : List ℕ). t ++ rest) c.in_ok-push_field.ensures ∙ append_assoc l.text (F _) rest
    ∙ ap (λ (fs : List RowField). l.text ++ flat_map F fs) (sym (drop_more items l.field-index _ c.loop-field-test.true)) ∙ l.invariant

pub returns : goal.returns
returns c =
    let answer = c.args.answer.now in
    let piece = c.args.piece.now in
    let l = c.loop-field in
    let fields = c.fields-fields.result.now in
    let items = slice_range fields 1 (length fields) in
    let F : RowField → List ℕ = λ f. piece.layout.now.delimiter ∷ field_at_time f answer.time (shown_in answer.state) (place_at piece answer) in
    let others = drop 1 (fields_in piece) in
    let done : drop l.field-index items ≡ [] = drop_all l.field-index items c.loop-field-test.false in
    let whole : l.text ≡ c.args.text.now ++ flat_map F others = sym (append-nil l.text) ∙ ap (λ (fs : List RowField). l.text ++ flat_map F fs) (sym done) ∙ l.invariant
    ∙ ap (λ (fs : List RowField). c.args.text.now ++ flat_map F fs) (take_rest fields 1 ∙ ap (drop 1) c.fields-fields.ensures.fields) in
    on_ok_weaker c.push.result (λ is. is ∙ ap (λ (t : List ℕ). t ++ 10 ∷ []) whole ∙ append_assoc c.args.text.now (flat_map F others) (10 ∷ [])) c.push.ensures
