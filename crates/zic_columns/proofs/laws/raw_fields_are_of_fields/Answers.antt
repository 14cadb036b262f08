use Rattle.zic_columns.proofs.OwnRecords.{each_counted}
use Rattle.zic_columns.proofs.laws.raw_fields_are_of_fields.Goals as goal

pub returns : goal.returns
returns c = λ d bytes can. each_counted can bytes
