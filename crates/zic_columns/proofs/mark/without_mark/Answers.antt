use Rattle.std.proofs.Common.{sym, ◌∙◌}
use Rattle.zic_columns.proofs.MarkFacts.{stripped, unmarked}
use Rattle.zic_columns.proofs.mark.without_mark.Goals as goal

pub returns-in-Some : goal.returns-in-Some
returns-in-Some c = c.in-Some.ensures.cases.1 ∙ sym (stripped c.args.bytes.now c.in-Some.ensures.cases.0)

pub returns-in-None : goal.returns-in-None
returns-in-None c = sym (unmarked c.args.bytes.now c.in-None.ensures.cases)
