use Rattle.std.proofs.Common.{refl, rules}
use Rattle.zic_rules.proofs.tail.tail_rule.Goals as goal

pub returns-clause-ok : goal.returns-clause-ok
returns-clause-ok c = record { moment = refl; saving = refl; name = search (rules, c.in_ok-name.ensures.ok) }
