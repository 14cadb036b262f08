use Rattle.std.proofs.Common.{sym, ap, ◌∙◌}
use Rattle.std.proofs.lemmas.Bool.{eqb-true}
use Rattle.std.proofs.lemmas.List.{nil_from_length}
use Rattle.std.proofs.lemmas.Result.{IfOk-weaker}
use Rattle.zic_columns.specs.Own.{first_text}
use Rattle.zic_columns.proofs.OwnLens.{first_after, none_after}
use Rattle.zic_columns.proofs.lines.first_own_bytes.Goals as goal

pub returns-then-is_empty : goal.returns-then-is_empty
returns-then-is_empty c =
    let after = c.after_line_ends-rest in
    let none = nil_from_length after.result.now (eqb-true _ 0 (sym c.is_empty.ensures ∙ c.if-is_empty.true)) in
    c.new.ensures.items ∙ sym (ap first_text (none_after c.args.delimiter.can c.args.bytes.now after.result.now after.ensures none))

pub returns : goal.returns
returns c =
    let after = c.after_line_ends-rest in
    let first = ap first_text (first_after c.args.delimiter.can c.args.bytes.now after.result.now c.own_len.result after.ensures c.own_len.ensures.own) in
    IfOk-weaker c.from_slice.result _ _ (λ own is. is ∙ sym first) c.from_slice.ensures.items
