use Rattle.zic_columns.proofs.OwnRecords.{of_own_bytes}
use Rattle.zic_columns.proofs.laws.records_are_of_own_bytes.Goals as goal

pub returns : goal.returns
returns c = λ d bytes can. of_own_bytes can bytes
