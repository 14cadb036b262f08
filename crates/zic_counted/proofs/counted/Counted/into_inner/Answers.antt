use Rattle.std.proofs.Common.{rules}
use Rattle.zic_counted.proofs.counted.Counted.into_inner.Goals as goal

pub returns : goal.returns
returns c = search rules
