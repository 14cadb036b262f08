use Rattle.zic_posix.proofs.StringLemmas.{spells_one}
use Rattle.zic_posix.proofs.laws.spells_at_most_one.Goals as goal

pub returns : goal.returns
returns c = spells_one
