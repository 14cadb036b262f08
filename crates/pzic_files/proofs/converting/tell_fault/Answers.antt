use Rattle.std.proofs.Common.{rules}
use Rattle.pzic_files.proofs.converting.tell_fault.Goals as goal

pub returns : goal.returns
returns c = search rules
