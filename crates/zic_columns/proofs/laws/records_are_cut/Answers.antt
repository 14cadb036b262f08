use Rattle.zic_columns.proofs.CutLaw.{records_are_cut}
use Rattle.zic_columns.proofs.laws.records_are_cut.Goals as goal

pub returns : goal.returns
returns c = λ d bytes can. records_are_cut can bytes
