use Rattle.zic_posix.proofs.StringLemmas.{limits_of}
use Rattle.zic_posix.proofs.WiderLemmas.{spells_wider}
use Rattle.zic_posix.proofs.laws.spells_within_limits.Goals as goal

pub returns : goal.returns
returns c = record { limits = limits_of; wider = spells_wider }
