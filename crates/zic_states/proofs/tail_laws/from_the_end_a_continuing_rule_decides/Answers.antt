use Rattle.zic_states.proofs.TailInForce.{by_continuing}
use Rattle.zic_states.proofs.tail_laws.from_the_end_a_continuing_rule_decides.Goals as goal

pub returns : goal.returns
returns c = by_continuing
