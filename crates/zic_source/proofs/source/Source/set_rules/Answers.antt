use Rattle.std.proofs.Common.{rules}
use Rattle.zic_source.proofs.source.Source.set_rules.Goals as goal

pub returns : goal.returns
returns c = search rules
