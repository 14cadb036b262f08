use Rattle.zic_states.proofs.Ordered.{one_until}
use Rattle.zic_states.proofs.laws.each_line_ends_at_one_instant.Goals as goal

pub returns : goal.returns
returns c = one_until
