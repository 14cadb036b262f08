use Rattle.std.proofs.Common.{rules}
use Rattle.zic_layouts.proofs.layout.FieldCount.admits.Goals as goal

pub returns-in-AtLeast : goal.returns-in-AtLeast
returns-in-AtLeast c = search rules
