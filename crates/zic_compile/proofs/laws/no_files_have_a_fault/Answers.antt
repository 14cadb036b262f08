use Rattle.zic_compile.proofs.OneFiles.{no_fault_of_texts}
use Rattle.zic_compile.proofs.laws.no_files_have_a_fault.Goals as goal

pub returns : goal.returns
returns c = no_fault_of_texts
