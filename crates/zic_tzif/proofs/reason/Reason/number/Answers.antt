use Rattle.std.proofs.Common.{rules}
use Rattle.zic_tzif.proofs.reason.Reason.number.Goals as goal

pub returns : goal.returns
returns c = search rules
