use Rattle.zic_states.proofs.Changes.{one_first_state}
use Rattle.zic_states.proofs.laws.a_zone_has_one_first_state.Goals as goal

pub returns : goal.returns
returns c = one_first_state
