use Rattle.zic_row_text.proofs.ReadBack.{iso_is}
use Rattle.zic_row_text.proofs.laws.instants_are_read_back.Goals as goal

pub returns : goal.returns
returns c = iso_is
