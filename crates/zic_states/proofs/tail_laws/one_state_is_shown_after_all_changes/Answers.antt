use Rattle.zic_states.proofs.TailChanges.{one_state_after_changes}
use Rattle.zic_states.proofs.tail_laws.one_state_is_shown_after_all_changes.Goals as goal

pub returns : goal.returns
returns c = one_state_after_changes
