use Rattle.std.proofs.Common.{rules}
use Rattle.zic_compile.proofs.entry.link_entry.Goals as goal

pub returns : goal.returns
returns c = search rules
