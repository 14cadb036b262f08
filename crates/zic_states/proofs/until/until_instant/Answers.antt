use Rattle.std.proofs.Common.{rules}
use Rattle.zic_states.proofs.until.until_instant.Goals as goal

pub returns : goal.returns
returns c = search rules
