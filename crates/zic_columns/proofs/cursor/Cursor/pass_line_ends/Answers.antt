use Rattle.std.proofs.Common.{ℕ, drop, sym, ap, ◌∙◌, subst}
use Rattle.std.proofs.lemmas.List.{take_rest}
use Rattle.zic_columns.specs.code.Line.{IsAfterLineEnds}
use Rattle.zic_columns.proofs.SplitFacts.{rest_at}
use Rattle.zic_columns.proofs.cursor.Cursor.pass_line_ends.Goals as goal

pub returns-clause-after : goal.returns-clause-after
returns-clause-after c =
    let piece = c.args.piece.now in
    let at = c.args.self.now.at in
    let rest = c.after_line_ends-rest.result.now in
    let after : IsAfterLineEnds (drop at piece) rest = rw (take_rest piece at) at c.after_line_ends-rest.ensures in
    subst (IsAfterLineEnds (drop at piece)) (sym (ap (λ (n : ℕ). drop n piece) c.new.ensures.at ∙ rest_at piece rest at after)) after
