use Rattle.zic_columns.proofs.OwnLaw.{between_ends}
use Rattle.zic_columns.proofs.laws.column_is_own_bytes.Goals as goal

pub returns : goal.returns
returns c = λ d bytes can. between_ends can bytes
