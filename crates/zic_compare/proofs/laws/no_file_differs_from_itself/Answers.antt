use Rattle.zic_compare.proofs.SameLemmas.{no_difference_from_itself}
use Rattle.zic_compare.proofs.laws.no_file_differs_from_itself.Goals as goal

pub returns : goal.returns
returns c = no_difference_from_itself
