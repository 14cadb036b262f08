use Rattle.zic_row_text.proofs.LocalTime.{local_time_is}
use Rattle.zic_row_text.proofs.laws.local_time_is_civil.Goals as goal

pub returns : goal.returns
returns c = local_time_is
