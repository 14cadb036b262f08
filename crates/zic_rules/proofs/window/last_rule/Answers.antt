use Rattle.std.proofs.Common.{sym}
use Rattle.zic_rules.proofs.Windows.{last_found}
use Rattle.zic_rules.proofs.window.last_rule.Goals as goal

pub returns : goal.returns
returns c = last_found c.args.periods.now c.in_ok-last.field-0.now (sym c.in_ok-last.ensures.value)
