use Rattle.zic_states.proofs.Instants.{last_not_after}
use Rattle.zic_states.proofs.occurrence_laws.last_not_after_is_found.Goals as goal

pub returns : goal.returns
returns c = last_not_after
