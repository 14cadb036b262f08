use Rattle.zic_convert.proofs.Plain.{plain_columns}
use Rattle.zic_convert.proofs.laws.plain_columns_convert_alike.Goals as goal

pub returns : goal.returns
returns c = plain_columns c.column_records_are_read.ensures c.records_are_one.ensures
