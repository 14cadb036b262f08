use Rattle.zic_files.proofs.Having.{have_files}
use Rattle.zic_files.proofs.laws.replies_have_files.Goals as goal

pub returns : goal.returns
returns c = have_files c.states_have_numbers.ensures c.footers_leave_nothing_open.ensures
