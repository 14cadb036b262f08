use Rattle.zic_states.proofs.Ends.{one_end}
use Rattle.zic_states.proofs.laws.a_zone_has_one_end.Goals as goal

pub returns : goal.returns
returns c = one_end
