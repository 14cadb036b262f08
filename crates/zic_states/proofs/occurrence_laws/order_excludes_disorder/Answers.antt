use Rattle.zic_states.proofs.Instants.{never_both}
use Rattle.zic_states.proofs.occurrence_laws.order_excludes_disorder.Goals as goal

pub returns : goal.returns
returns c = never_both
