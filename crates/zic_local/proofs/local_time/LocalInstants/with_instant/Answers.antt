use Rattle.std.proofs.Common.{rules}
use Rattle.zic_local.proofs.local_time.LocalInstants.with_instant.Goals as goal

pub returns-in-Fold : goal.returns-in-Fold
returns-in-Fold c = search rules
