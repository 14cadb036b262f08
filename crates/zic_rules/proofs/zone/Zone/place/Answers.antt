use Rattle.std.proofs.Common.{rules}
use Rattle.zic_rules.proofs.zone.Zone.place.Goals as goal

pub returns : goal.returns
returns c = search rules
