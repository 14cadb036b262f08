use Rattle.std.proofs.Common.{rules}
use Rattle.zic_tzif.proofs.content.Table.types.Goals as goal

pub returns : goal.returns
returns c = search rules
