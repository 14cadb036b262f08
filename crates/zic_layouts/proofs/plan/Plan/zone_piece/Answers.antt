use Rattle.std.proofs.Common.{rules}
use Rattle.zic_layouts.proofs.plan.Plan.zone_piece.Goals as goal

pub returns-clause-size : goal.returns-clause-size
returns-clause-size c = search rules
