use Rattle.zic_states.proofs.Changes.{one_list_of_changes}
use Rattle.zic_states.proofs.laws.one_list_has_all_changes.Goals as goal

pub returns : goal.returns
returns c = one_list_of_changes
