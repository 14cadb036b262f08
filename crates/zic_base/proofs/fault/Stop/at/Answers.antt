use Rattle.std.proofs.Common.{rules}
use Rattle.zic_base.proofs.fault.Stop.at.Goals as goal

pub returns : goal.returns
returns c = search rules
