use Rattle.zic_posix.proofs.Meanings.{means_some, means_only}
use Rattle.zic_posix.proofs.laws.means_one_state.Goals as goal

pub returns : goal.returns
returns c = record { some = means_some; only = means_only }
