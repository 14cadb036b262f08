use Rattle.zic_row_text.proofs.ReadBack.{local_is}
use Rattle.zic_row_text.proofs.laws.local_times_are_read_back.Goals as goal

pub returns : goal.returns
returns c = local_is
