use Rattle.std.proofs.Common.{rules}
use Rattle.zic_base.proofs.short_text.ShortTextPartialEq.eq.Goals as goal

pub returns : goal.returns
returns c = search rules
