use Rattle.std.proofs.Common.{rules}
use Rattle.zic_lines.proofs.year.last_year.Goals as goal

pub returns-clause-within : goal.returns-clause-within
returns-clause-within c = search rules
