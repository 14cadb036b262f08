use Rattle.zic_footer.proofs.MonthsApart.{months_apart}
use Rattle.zic_footer.proofs.turns.follow_in_turn.Goals as goal

pub returns-then-are_months_apart : goal.returns-then-are_months_apart
returns-then-are_months_apart c = (
  λ e. months_apart c.args.a.now c.args.b.now c.requires.a c.requires.b (c.are_months_apart.ensures.0 e),
  λ in_turn. c.if-are_months_apart.true,
)
