use Rattle.std.proofs.Common.{rules}
use Rattle.zic_counted.proofs.counted.Counted.count_failure.Goals as goal

pub returns-clause-failure : goal.returns-clause-failure
returns-clause-failure c = search rules

pub returns-clause-inner : goal.returns-clause-inner
returns-clause-inner c = search rules
