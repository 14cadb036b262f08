use Rattle.std.proofs.Common.{rules}
use Rattle.zic_local.proofs.lookup.instant_in.Goals as goal

pub returns : goal.returns
returns c = search rules
