use Rattle.zic_states.proofs.TailShown.{in_force_before}
use Rattle.zic_states.proofs.tail_laws.all_is_in_force_before_the_end.Goals as goal

pub returns : goal.returns
returns c = in_force_before
