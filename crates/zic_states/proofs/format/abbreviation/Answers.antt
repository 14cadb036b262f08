use Rattle.std.proofs.Common.{rules}
use Rattle.zic_states.proofs.format.abbreviation.Goals as goal

pub returns-clause-ok : goal.returns-clause-ok
returns-clause-ok c = search rules

pub returns-clause-within : goal.returns-clause-within
returns-clause-within c = search rules

pub returns-clause-err : goal.returns-clause-err
returns-clause-err c = search rules
