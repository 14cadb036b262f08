use Rattle.std.proofs.Common.{rules}
use Rattle.zic_tzif.proofs.content.Table.new.Goals as goal

pub returns : goal.returns
returns c = search rules
