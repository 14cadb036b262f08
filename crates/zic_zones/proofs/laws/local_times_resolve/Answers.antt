use Rattle.zic_local.proofs.Resolving.{resolved_is}
use Rattle.zic_zones.specs.Resolved.{resolved}
use Rattle.zic_zones.proofs.laws.local_times_resolve.Goals as goal

pub returns : goal.returns
unfolding resolved
returns c = λ octets content file local disambiguation. resolved_is octets local disambiguation content file
