use Rattle.std.proofs.Common.{rules}
use Rattle.zic_base.proofs.short_text.ShortText.new.Goals as goal

pub returns-clause-ok : goal.returns-clause-ok
returns-clause-ok c = search rules
