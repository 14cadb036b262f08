use Rattle.std.proofs.Common.{◌≡◌, ◌∙◌, ◌+◌, ◌∷◌, ◌++◌, [], ℕ, true, false, List, ap, append-nil, append_assoc, drop, sym}
use Rattle.std.proofs.lemmas.Result.{on_ok_weaker}
use Rattle.std.proofs.lemmas.List.{drop_all}
use Rattle.std.specs.List.{flat_map}
use Rattle.zic_layouts.specs.RowField.{compared_of, is_compared}
use Rattle.zic_layouts.specs.declared.row_field.RowField.{RowField}
use Rattle.zic_piece_rows.specs.code.Answer.{fields_in, place_at, shown_in}
use Rattle.zic_piece_rows.specs.code.Row.{field_at_time}
use Rattle.zic_piece_rows.proofs.RowFields.{fields_left}
use Rattle.zic_piece_rows.proofs.text.push_answer.Goals.{then-is_compared+in_ok-push_field, else-is_compared}
use Rattle.zic_piece_rows.proofs.text.push_answer.Goals as goal

pub loop-field-preserved : goal.loop-field-preserved
loop-field-preserved c =
    let answer = c.args.answer.now in
    let piece = c.args.piece.now in
    let fields = c.fields-field-items.result.now in
    let i = c.loop-field.field-index in
    let text = c.loop-field.text in
    let p = is_compared c.args.compared in
    let F : RowField → List ℕ = λ f. piece.layout.now.delimiter ∷ field_at_time f answer.time (shown_in answer.state) (place_at piece answer) in
    let rest = flat_map F (compared_of c.args.compared (drop (i + 1) fields)) in
    elim c.if-is_compared.branch [
      | then-is_compared+in_ok-push_field w ↦
          ap (λ (t : List ℕ). t ++ rest) (w.text-is ∙ w.in_ok-push_field.ensures) ∙ append_assoc text (F _) rest
          ∙ ap (λ (l : List ℕ). text ++ l) (sym (fields_left p F fields i _ c.loop-field-test.true true (sym c.is_compared.ensures ∙ w.if-is_compared.true))) ∙ c.loop-field.invariant
      | else-is_compared w ↦
          ap (λ (t : List ℕ). t ++ rest) w.text-is
          ∙ ap (λ (l : List ℕ). text ++ l) (sym (fields_left p F fields i _ c.loop-field-test.true false (sym c.is_compared.ensures ∙ w.if-is_compared.false))) ∙ c.loop-field.invariant
    ]

pub returns : goal.returns
returns c =
    let answer = c.args.answer.now in
    let piece = c.args.piece.now in
    let fields = c.fields-field-items.result.now in
    let text = c.loop-field.text in
    let F : RowField → List ℕ = λ f. piece.layout.now.delimiter ∷ field_at_time f answer.time (shown_in answer.state) (place_at piece answer) in
    let all : List RowField → List ℕ = λ l. flat_map F (compared_of c.args.compared l) in
    let done : drop c.loop-field.field-index fields ≡ [] = drop_all c.loop-field.field-index fields c.loop-field-test.false in
    let whole : text ≡ c.args.text.now ++ all fields = sym (append-nil text) ∙ ap (λ (l : List RowField). text ++ all l) (sym done) ∙ c.loop-field.invariant in
    on_ok_weaker c.push.result
    (λ is. is ∙ ap (λ (t : List ℕ). t ++ 10 ∷ []) (whole ∙ ap (λ (l : List RowField). c.args.text.now ++ all l) c.fields-field-items.ensures.fields)
    ∙ append_assoc c.args.text.now (all (fields_in piece)) (10 ∷ []))
    c.push.ensures
