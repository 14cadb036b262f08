use Rattle.std.proofs.Common.{◌≡◌, ◌∷◌, ◌++◌, [], ◌∙◌, ap, append_assoc, string_bytes}
use Rattle.std.proofs.lemmas.Result.{IfOk-weaker}
use Rattle.zic_bulk.proofs.build_command.path_of.Goals as goal

pub returns : goal.returns
returns c =
    let name = c.args.name.now in
    let start = string_bytes c.in_ok-format.field-0 in
    let folder = c.args.folder.now in
    IfOk-weaker c.with_name.result (λ whole. string_bytes whole ≡ start ++ name) (λ whole. string_bytes whole ≡ folder ++ 47 ∷ name)
    (λ whole is. is ∙ ap (λ p. p ++ name) c.in_ok-format.ensures.ok ∙ append_assoc folder (47 ∷ []) name) c.with_name.ensures
