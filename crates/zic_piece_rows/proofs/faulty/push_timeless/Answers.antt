use Rattle.std.proofs.Common.{◌≡◌, ◌∙◌, ◌++◌, ◌∷◌, [], ℕ, List, ap, ap₂, append_assoc, length, replicate, take}
use Rattle.std.proofs.lemmas.List.{take-replicate}
use Rattle.std.proofs.lemmas.Result.{on_ok_weaker}
use Rattle.zic_layouts.specs.declared.row_field.RowField.{RowField}
use Rattle.zic_piece_rows.specs.LayoutRows.{row_fields}
use Rattle.zic_piece_rows.proofs.RowFields.{few_fields}
use Rattle.zic_piece_rows.proofs.faulty.push_timeless.Goals as goal

pub returns-in-Record : goal.returns-in-Record
returns-in-Record c =
    let layout = c.args.piece.now.layout.now in
    let d = layout.delimiter in
    let fields = c.fields-count.result.now in
    let n = length fields in
    let own = c.of.result.now in
    let byte = c.byte-empty.result in
    let few = ap (λ (l : List RowField). length l) c.fields-count.ensures.fields in
    let within = few_fields (row_fields layout) c.fields-count.ensures.few in
    let empties : take n (replicate 8 byte) ≡ replicate (length (row_fields layout)) d =
    ap (λ (k : ℕ). take k (replicate 8 byte)) few ∙ take-replicate (length (row_fields layout)) 8 byte within ∙ ap (replicate (length (row_fields layout))) c.byte-empty.ensures.byte in
    rw c.in-Record.is (on_ok_weaker c.push_own.result
    (λ is. is ∙ ap (λ (l : List ℕ). c.args.text.now.items ++ l) (append_assoc own (take n (replicate 8 byte)) (10 ∷ []) ∙ ap₂ (λ (o e : List ℕ). o ++ (e ++ 10 ∷ [])) c.of.ensures empties))
    c.push_own.ensures)
