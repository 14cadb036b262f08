use Rattle.zic_source.proofs.faults.FirstFault.{source_has_no_fault}
use Rattle.zic_source.proofs.laws.no_source_has_a_fault.Goals as goal

pub returns : goal.returns
returns c = source_has_no_fault
