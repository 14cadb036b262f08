use Rattle.std.proofs.Common.{◌∙◌, ◌-◌, ◌<◌, ◌++◌, ℕ, List, ap, ap₂, arith, length, sym, take}
use Rattle.std.proofs.lemmas.Result.{on_ok_weaker}
use Rattle.zic_piece_rows.proofs.LineEnds.{end_cut, no_row}
use Rattle.zic_piece_rows.proofs.row.end_by_return.Goals as goal

pub returns-then-len-start : goal.returns-then-len-start
returns-then-len-start c = no_row c.args.text.now c.args.start (sym c.if-len-start.true ∙ c.len-len.ensures)

pub returns : goal.returns
returns c =
    let text = c.args.text.now in
    let start = c.args.start in
    let lt : start < length text = omega (arith, c.requires, c.if-len-start.false, c.len-len.ensures) in
    let cut = c.truncate.ensures ∙ ap (λ (n : ℕ). take (n - 1) text) c.len-len.ensures in
    on_ok_weaker c.push.result (λ is. is ∙ ap₂ (λ (a b : List ℕ). a ++ b) cut c.bytes.ensures ∙ end_cut text start lt) c.push.ensures
