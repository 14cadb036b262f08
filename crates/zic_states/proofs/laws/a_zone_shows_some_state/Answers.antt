use Rattle.zic_states.proofs.SomeState.{some_state}
use Rattle.zic_states.proofs.laws.a_zone_shows_some_state.Goals as goal

pub returns : goal.returns
returns c = some_state
