use Rattle.zic_states.proofs.Instants.{instants_rise}
use Rattle.zic_states.proofs.occurrence_laws.instants_rise.Goals as goal

pub returns : goal.returns
returns c = instants_rise
