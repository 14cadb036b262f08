use Rattle.csv.proofs.RoundTrip.{read-write}
use Rattle.zic_io.specs.Faults.{fault_fields}
use Rattle.zic_io.proofs.laws.fault_lines_read_back.Goals as goal

pub returns : goal.returns
returns c = λ fields fault detail rest. read-write (fault_fields fields fault detail) rest
