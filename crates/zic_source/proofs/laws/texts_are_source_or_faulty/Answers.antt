use Rattle.zic_source.proofs.faults.FirstFault.{source_or_fault}
use Rattle.zic_source.proofs.laws.texts_are_source_or_faulty.Goals as goal

pub returns : goal.returns
returns c = source_or_fault
