use Rattle.std.proofs.Common.{rules}
use Rattle.zic_rules.proofs.zone.Zone.lines.Goals as goal

pub returns : goal.returns
returns c = search rules
