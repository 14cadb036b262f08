use Rattle.std.proofs.Common.{rules}
use Rattle.pzic_files.proofs.copying.copy.Goals as goal

pub returns-clause-count : goal.returns-clause-count
returns-clause-count c = search rules
