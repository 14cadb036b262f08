use Rattle.zic_states.proofs.Untils.{untils_are_read}
use Rattle.zic_states.proofs.laws.each_until_is_read.Goals as goal

pub returns : goal.returns
returns c = untils_are_read
