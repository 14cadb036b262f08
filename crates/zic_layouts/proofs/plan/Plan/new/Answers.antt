use Rattle.std.proofs.Common.{rules}
use Rattle.zic_layouts.proofs.plan.Plan.new.Goals as goal

pub invariant_of-result : goal.invariant_of-result
invariant_of-result c = search rules
