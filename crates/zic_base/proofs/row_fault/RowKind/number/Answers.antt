use Rattle.std.proofs.Common.{rules}
use Rattle.zic_base.proofs.row_fault.RowKind.number.Goals as goal

pub returns : goal.returns
returns c = search rules
