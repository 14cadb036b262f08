use Rattle.zic_local.proofs.NextOnce.{next_once}
use Rattle.zic_local.proofs.schedule_laws.next_is_one.Goals as goal

pub returns : goal.returns
returns c = λ content schedule after until a b. next_once content schedule after until a b
