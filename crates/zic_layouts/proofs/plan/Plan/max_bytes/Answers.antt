use Rattle.std.proofs.Common.{rules}
use Rattle.zic_layouts.proofs.plan.Plan.max_bytes.Goals as goal

pub returns-clause-bytes : goal.returns-clause-bytes
returns-clause-bytes c = search rules
