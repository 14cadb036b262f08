use Rattle.zic_rules.proofs.TailTurns.{last_occurrence_is_change}
use Rattle.zic_rules.proofs.laws.the_last_occurrence_is_a_change.Goals as goal

pub returns : goal.returns
returns c = last_occurrence_is_change
