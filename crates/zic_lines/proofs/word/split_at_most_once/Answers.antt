use Rattle.std.proofs.Common.{◌∷◌, ◌∙◌, eqb, ap, List, ℕ, Option}
use Rattle.std.specs.Borrow.{Bor}
use Rattle.zic_lines.specs.code.Parts.{other_parts}
use Rattle.zic_lines.proofs.Splits.{three_parts}
use Rattle.zic_lines.proofs.word.split_at_most_once.Goals as goal

pub returns-in_default-Some : goal.returns-in_default-Some
returns-in_default-Some c =
    let part = c.split_once.result.0.now in
    three_parts c.args.bytes.now c.args.separator part c.split_once-2.result.0.now c.split_once-2.result.1 c.in_default-Some.field-0-1 c.in_default-Some.is-1
    (c.split_once.ensures.parts ∙ ap (λ (o : Option (Bor (List ℕ))). part ∷ other_parts (λ byte. eqb byte c.args.separator) o) c.in-Some.is ∙ ap (λ (ps : List (List ℕ)). part ∷ ps) c.split_once-2.ensures.parts)
