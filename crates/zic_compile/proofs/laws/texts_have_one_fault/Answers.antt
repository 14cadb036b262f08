use Rattle.zic_compile.proofs.OneFault.{one_fault_of_texts}
use Rattle.zic_compile.proofs.laws.texts_have_one_fault.Goals as goal

pub returns : goal.returns
returns c = one_fault_of_texts
