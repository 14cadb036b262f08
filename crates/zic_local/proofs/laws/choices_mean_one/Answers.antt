use Rattle.zic_local.proofs.Once.{means_once}
use Rattle.zic_local.proofs.laws.choices_mean_one.Goals as goal

pub returns : goal.returns
returns c = means_once
