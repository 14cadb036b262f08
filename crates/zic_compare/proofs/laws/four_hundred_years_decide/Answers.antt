use Rattle.zic_compare.proofs.SummaryLemmas.{decide}
use Rattle.zic_compare.proofs.laws.four_hundred_years_decide.Goals as goal

pub returns : goal.returns
returns c = decide
