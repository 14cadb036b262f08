use Rattle.std.proofs.Common.{◌≡◌, ◌∙◌, ◌∷◌, [], ◌++◌, ℕ, List, ap, length, replicate, take}
use Rattle.std.proofs.lemmas.List.{take-replicate}
use Rattle.std.proofs.lemmas.Result.{on_ok_weaker}
use Rattle.zic_piece_rows.proofs.moved.write_empty.Goals as goal

pub returns : goal.returns
returns c =
    let n = length c.args.fields.now in
    let d = c.args.delimiter in
    let fields : c.push.new.self ≡ replicate n d =
    c.in_ok-push.ensures ∙ ap (λ (l : List ℕ). l ++ take n (replicate 8 d)) c.clear.ensures ∙ take-replicate n 8 d c.requires in
    on_ok_weaker c.push-2.result (λ is. is ∙ ap (λ (l : List ℕ). l ++ 10 ∷ []) fields) c.push-2.ensures
