use Rattle.zic_row_text.proofs.ReadBack.{utc_is}
use Rattle.zic_row_text.proofs.laws.instants_in_ut_are_read_back.Goals as goal

pub returns : goal.returns
returns c = utc_is
