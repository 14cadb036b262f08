use Rattle.zic_columns.proofs.ClosedLines.{lines_are_cut}
use Rattle.zic_columns.proofs.laws.lines_are_cut.Goals as goal

pub returns : goal.returns
returns c = lines_are_cut
