use Rattle.std.proofs.Common.{rules}
use Rattle.zic_rules.proofs.zone.Zone.line.Goals as goal

pub returns-clause-sound : goal.returns-clause-sound
returns-clause-sound c = search rules
