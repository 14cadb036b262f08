use Rattle.zic_columns.proofs.SomeRecords.{are_read}
use Rattle.zic_columns.proofs.laws.column_records_are_read.Goals as goal

pub returns : goal.returns
returns c = are_read
