use Rattle.std.proofs.Common.{rules}
use Rattle.zic_layouts.proofs.delimiter.Delimiter.byte.Goals as goal

pub returns-clause-byte : goal.returns-clause-byte
returns-clause-byte c = search rules
