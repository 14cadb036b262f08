use Rattle.std.proofs.Common.{ℕ, List, length, sym, ap, ◌∙◌}
use Rattle.std.proofs.lemmas.Bool.{eqb-false}
use Rattle.zic_files.proofs.limit.check_fit.Goals as goal

pub returns-then-not-are_within_limits : goal.returns-then-not-are_within_limits
returns-then-not-are_within_limits c = (
  λ empty. eqb-false (length c.footer_text.result.now) 0 (sym c.is_empty.ensures ∙ c.if-is_empty.false) (ap (λ (text : List ℕ). length text) (c.footer_text.ensures ∙ empty)),
  c.if-not-are_within_limits.ensures,
)
