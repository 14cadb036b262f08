use Rattle.std.proofs.Common.{rules}
use Rattle.zic_base.proofs.state.is_abbreviation_byte.Goals as goal

pub returns-in_default : goal.returns-in_default
returns-in_default c = search rules
