use Rattle.zic_states.proofs.SomeState.{one_state_at}
use Rattle.zic_states.proofs.laws.a_sound_zone_shows_one_state_at_each_instant.Goals as goal

pub returns : goal.returns
returns c = one_state_at
