use Rattle.zic_states.proofs.States.{one_state}
use Rattle.zic_states.proofs.laws.a_zone_shows_one_state.Goals as goal

pub returns : goal.returns
returns c = one_state
