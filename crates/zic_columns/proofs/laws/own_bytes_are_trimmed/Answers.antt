use Rattle.zic_columns.proofs.OwnRecords.{each_trimmed}
use Rattle.zic_columns.proofs.laws.own_bytes_are_trimmed.Goals as goal

pub returns : goal.returns
returns c = λ d bytes can. each_trimmed can bytes
