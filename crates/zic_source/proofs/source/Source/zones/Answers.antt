use Rattle.std.proofs.Common.{rules}
use Rattle.zic_source.proofs.source.Source.zones.Goals as goal

pub returns-clause-count : goal.returns-clause-count
returns-clause-count c = search rules

pub returns-clause-sound : goal.returns-clause-sound
returns-clause-sound c = search rules
