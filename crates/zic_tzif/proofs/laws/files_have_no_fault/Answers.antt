use Rattle.zic_tzif.proofs.ReadFiles.{file_has_no_fault}
use Rattle.zic_tzif.proofs.laws.files_have_no_fault.Goals as goal

pub returns : goal.returns
returns c = file_has_no_fault
