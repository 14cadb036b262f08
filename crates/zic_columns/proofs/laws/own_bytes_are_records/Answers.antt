use Rattle.zic_columns.proofs.OwnRecords.{each_alone}
use Rattle.zic_columns.proofs.laws.own_bytes_are_records.Goals as goal

pub returns : goal.returns
returns c = λ d bytes can. each_alone can bytes
