use Rattle.std.proofs.Common.{rules}
use Rattle.zic_files.proofs.files.Files.bytes.Goals as goal

pub returns : goal.returns
returns c = search rules
