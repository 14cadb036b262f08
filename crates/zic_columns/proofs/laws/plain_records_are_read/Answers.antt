use Rattle.zic_columns.proofs.SomeRecords.{plain_read}
use Rattle.zic_columns.proofs.laws.plain_records_are_read.Goals as goal

pub returns : goal.returns
returns c = λ d bytes can. plain_read can bytes
