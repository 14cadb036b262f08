use Rattle.zic_states.proofs.TailInForce.{by_one}
use Rattle.zic_states.proofs.tail_laws.one_continuing_rule_decides_for_ever.Goals as goal

pub returns : goal.returns
returns c = by_one
