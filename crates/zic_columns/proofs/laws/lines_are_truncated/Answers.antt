use Rattle.zic_columns.proofs.Truncating.{lines_truncated}
use Rattle.zic_columns.proofs.laws.lines_are_truncated.Goals as goal

pub returns : goal.returns
returns c = lines_truncated
