use Rattle.std.proofs.Common.{rules}
use Rattle.zic_layouts.proofs.delimiter.Delimiter.comma.Goals as goal

pub returns : goal.returns
returns c = search rules
