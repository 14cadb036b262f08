use Rattle.zic_states.proofs.TailChanges.{stays_since_change}
use Rattle.zic_states.proofs.tail_laws.a_state_stays_since_its_change.Goals as goal

pub returns : goal.returns
returns c = stays_since_change
