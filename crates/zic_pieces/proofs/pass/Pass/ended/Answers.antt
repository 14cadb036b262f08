use Rattle.std.proofs.Common.{rules}
use Rattle.zic_pieces.proofs.pass.Pass.ended.Goals as goal

pub returns : goal.returns
returns c = search rules
