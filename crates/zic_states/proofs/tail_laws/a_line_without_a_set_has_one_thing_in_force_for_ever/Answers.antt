use Rattle.zic_states.proofs.TailLine.{fixed_tail}
use Rattle.zic_states.proofs.tail_laws.a_line_without_a_set_has_one_thing_in_force_for_ever.Goals as goal

pub returns : goal.returns
returns c = fixed_tail
