use Rattle.zic_tzif.proofs.ReadFiles.{fault_is_one}
use Rattle.zic_tzif.proofs.laws.faults_are_one.Goals as goal

pub returns : goal.returns
returns c = fault_is_one
