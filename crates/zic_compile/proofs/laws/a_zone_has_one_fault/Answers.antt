use Rattle.zic_compile.proofs.zone_images.OneFault.{one_fault}
use Rattle.zic_compile.proofs.laws.a_zone_has_one_fault.Goals as goal

pub returns : goal.returns
returns c = one_fault
