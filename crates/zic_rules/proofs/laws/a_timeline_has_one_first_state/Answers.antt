use Rattle.zic_states.proofs.Changes.{has_beginning, one_first_state}
use Rattle.zic_rules.proofs.laws.a_timeline_has_one_first_state.Goals as goal

pub returns : goal.returns
returns c zone whole changes are = one_first_state zone whole.orderly (has_beginning zone whole.has_end.0 changes whole.has_end.1 are)
