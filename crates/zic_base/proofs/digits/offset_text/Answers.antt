use Rattle.std.proofs.Common.{rules}
use Rattle.zic_base.proofs.digits.offset_text.Goals as goal

pub returns : goal.returns
returns c = search rules
