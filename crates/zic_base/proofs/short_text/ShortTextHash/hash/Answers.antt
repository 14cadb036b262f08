use Rattle.std.proofs.Common.{rules}
use Rattle.zic_base.proofs.short_text.ShortTextHash.hash.Goals as goal

pub returns : goal.returns
returns c = search rules
