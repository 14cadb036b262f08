use Rattle.std.proofs.Common.{rules}
use Rattle.zic_layouts.proofs.layout.Layout.plain.Goals as goal

pub returns-clause-rows : goal.returns-clause-rows
returns-clause-rows c = search rules
