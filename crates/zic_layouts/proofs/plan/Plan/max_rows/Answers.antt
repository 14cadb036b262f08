use Rattle.std.proofs.Common.{rules}
use Rattle.zic_layouts.proofs.plan.Plan.max_rows.Goals as goal

pub returns-clause-rows : goal.returns-clause-rows
returns-clause-rows c = search rules
