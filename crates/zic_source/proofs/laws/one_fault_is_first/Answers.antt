use Rattle.zic_source.proofs.faults.FirstFault.{one_first_fault}
use Rattle.zic_source.proofs.laws.one_fault_is_first.Goals as goal

pub returns : goal.returns
returns c = one_first_fault
