use Rattle.zic_columns.proofs.PieceRecords.{wholes_cut}
use Rattle.zic_columns.proofs.laws.whole_records_are_cut.Goals as goal

pub returns : goal.returns
returns c = λ d bytes rest can. wholes_cut can bytes rest
