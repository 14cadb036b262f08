use Rattle.std.proofs.Common.{rules}
use Rattle.zic_tzif.proofs.zone.Zone.version.Goals as goal

pub returns : goal.returns
returns c = search rules
