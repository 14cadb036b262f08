use Rattle.zic_states.proofs.InForce.{one_in_force}
use Rattle.zic_states.proofs.laws.a_line_has_one_thing_in_force.Goals as goal

pub returns : goal.returns
returns c = one_in_force
