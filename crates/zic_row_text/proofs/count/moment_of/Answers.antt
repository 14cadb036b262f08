use Rattle.std.proofs.Common.{rules}
use Rattle.zic_row_text.proofs.count.moment_of.Goals as goal

pub returns-clause-second : goal.returns-clause-second
returns-clause-second c = search rules

pub returns-clause-fraction : goal.returns-clause-fraction
returns-clause-fraction c = search rules

pub returns-clause-below : goal.returns-clause-below
returns-clause-below c = search rules
