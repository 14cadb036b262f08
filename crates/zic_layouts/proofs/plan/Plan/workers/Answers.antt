use Rattle.std.proofs.Common.{rules}
use Rattle.zic_layouts.proofs.plan.Plan.workers.Goals as goal

pub returns-clause-workers : goal.returns-clause-workers
returns-clause-workers c = search rules
