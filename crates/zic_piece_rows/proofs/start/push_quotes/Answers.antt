use Rattle.std.proofs.Common.{◌≡◌, ◌∙◌, ◌<◌, ◌++◌, ℕ, List, ap, arith, inl, inr, length, sym}
use Rattle.std.proofs.lemmas.Result.{on_ok_weaker}
use Rattle.zic_piece_rows.proofs.Around.{no_bytes, no_quotes, some_bytes, two_quotes}
use Rattle.zic_piece_rows.proofs.start.push_quotes.Goals as goal
use Rattle.zic_piece_rows.proofs.start.push_quotes.Goals.{then-start-len-via-then-start-len, then-start-len-via-else-start-len+then-not-is_empty}

pub returns-then-start-len : goal.returns-then-start-len
returns-then-start-len c =
    let text = c.args.text.now in
    let rest = c.args.rest.now in
    let start = c.args.start in
    elim c.then-start-len.branch [
      | then-start-len-via-then-start-len w ↦ no_quotes text rest start c.requires (inl (omega (arith, w.if-start-len.true, c.len.ensures)))
      | then-start-len-via-else-start-len+then-not-is_empty w ↦ no_quotes text rest start c.requires (inr (some_bytes rest (sym w.is_empty.ensures ∙ w.if-not-is_empty.true)))
    ]

pub returns : goal.returns
returns c =
    let text = c.args.text.now in
    let rest = c.args.rest.now in
    let start = c.args.start in
    let at : start ≡ length text = omega (arith, c.requires, c.if-start-len.false, c.len.ensures) in
    let none = no_bytes rest (sym c.is_empty.ensures ∙ c.if-not-is_empty.false) in
    on_ok_weaker c.push.result (λ is. ap (λ (l : List ℕ). l ++ rest) is ∙ two_quotes text rest start at none) c.push.ensures
