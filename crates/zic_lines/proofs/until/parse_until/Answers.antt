use Rattle.std.proofs.Common.{◌≡◌, ◌<◌, Some, List, length, sym, ◌∙◌, arith}
use Rattle.std.specs.Prelude.{◌==◌, false}
use Rattle.std.specs.Cow.{cow_slice_items}
use Rattle.std.proofs.lemmas.Bool.{eqb-true, eqb-false}
use Rattle.std.proofs.lemmas.List.{length-map}
use Rattle.std.proofs.lemmas.Result.{err_from_is_err_and}
use Rattle.zic_lines.specs.code.Texts.{texts_of}
use Rattle.zic_lines.proofs.Shapes.{few, some_texts}
use Rattle.zic_lines.proofs.ZoneLines.{until_made, until_fails, until_of_none}
use Rattle.zic_lines.proofs.until.parse_until.Goals as goal

-- a list that isn't empty has items
not_empty : {A : Type 0} (xs : List A) → (length xs == 0) ≡ false → 0 < length xs
not_empty xs e = let none = eqb-false (length xs) 0 e in omega (arith, none)

pub returns-then-is_empty-clause-says : goal.returns-then-is_empty-clause-says
returns-then-is_empty-clause-says c =
    let fields = c.args.fields.now in
    let none = eqb-true (length fields) 0 (sym c.is_empty.ensures ∙ c.if-is_empty.true) in
    until_of_none (texts_of fields) (length-map fields cow_slice_items ∙ none)

pub returns-clause-says : goal.returns-clause-says
returns-clause-says c =
    let fields = c.args.fields.now in
    let some = not_empty fields (sym c.is_empty.ensures ∙ c.if-is_empty.false) in
    sym (until_made (texts_of fields) c.text_or-year.result.now c.text_or-month.result.now c.text_or-day.result.now c.text_or-time.result.now (Some c.in_ok-until_at.field-0)
    (some_texts cow_slice_items fields some) (few cow_slice_items fields c.requires.few)
    c.text_or-year.ensures c.text_or-month.ensures c.text_or-day.ensures c.text_or-time.ensures (sym c.in_ok-until_at.ensures.says))

pub returns-in_err-until_at-clause-fault : goal.returns-in_err-until_at-clause-fault
returns-in_err-until_at-clause-fault c =
    let fields = c.args.fields.now in
    let some = not_empty fields (sym c.is_empty.ensures ∙ c.if-is_empty.false) in
    let p = err_from_is_err_and c.from_residual.result c.from_residual.ensures.1 in
    rw (p.1, p.2) (until_fails c.args.first (texts_of fields) c.text_or-year.result.now c.text_or-month.result.now c.text_or-day.result.now c.text_or-time.result.now
    (some_texts cow_slice_items fields some) c.text_or-year.ensures c.text_or-month.ensures c.text_or-day.ensures c.text_or-time.ensures
    ∙ c.in_err-until_at.ensures.fault)
