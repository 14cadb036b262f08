use Rattle.zic_convert.proofs.Once.{columns_once}
use Rattle.zic_convert.proofs.laws.columns_convert_once.Goals as goal

pub returns : goal.returns
returns c = columns_once c.records_are_one.ensures c.files_answer_once.ensures
