use Rattle.std.proofs.Common.{rules}
use Rattle.zic_posix.proofs.printer.push_offset.Goals as goal

pub returns : goal.returns
returns c = search rules
