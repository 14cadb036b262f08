use Rattle.std.proofs.Common.{ℕ, ◌∷◌, ◌∙◌, ap, eqb, List, Option}
use Rattle.std.specs.Borrow.{Bor}
use Rattle.zic_lines.specs.code.Parts.{other_parts}
use Rattle.zic_lines.proofs.Times.{no_more_parts}
use Rattle.zic_lines.proofs.time.magnitude.Goals as goal

pub returns-in_err-minutes-clause-value : goal.returns-in_err-minutes-clause-value
returns-in_err-minutes-clause-value c =
    let hours = c.split_once.result.0.now in
    rw c.from_residual-in_err-minutes.ensures (no_more_parts c.args.text.now hours c.in-Some.rest.now
    (c.split_once.ensures.parts ∙ ap (λ (o : Option (Bor (List ℕ))). hours ∷ other_parts (λ byte. eqb byte 58) o) c.in-Some.is) c.in_err-minutes.ensures)
