use Rattle.zic_states.proofs.Governing.{one_line}
use Rattle.zic_states.proofs.laws.one_line_governs.Goals as goal

pub returns : goal.returns
returns c = one_line
