use Rattle.zic_states.proofs.TailForEver.{repeats_for_ever}
use Rattle.zic_states.proofs.tail_laws.what_is_shown_repeats_for_ever.Goals as goal

pub returns : goal.returns
returns c = repeats_for_ever
