use Rattle.zic_states.proofs.TailInForce.{by_none}
use Rattle.zic_states.proofs.tail_laws.without_a_continuing_rule_one_thing_is_in_force.Goals as goal

pub returns : goal.returns
returns c = by_none
