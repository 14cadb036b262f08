use Rattle.std.proofs.Common.{rules}
use Rattle.zic_base.proofs.fault.Place.is_before.Goals as goal

pub returns-then-self-other-2 : goal.returns-then-self-other-2
returns-then-self-other-2 c = search rules
