use Rattle.zic_states.proofs.TailForEver.{alternates_for_ever}
use Rattle.zic_states.proofs.tail_laws.rules_alternate_for_ever.Goals as goal

pub returns : goal.returns
returns c = alternates_for_ever
