use Rattle.std.proofs.Common.{rules}
use Rattle.zic_tzif.proofs.data_block.DataBlock.check.Goals as goal

pub returns : goal.returns
returns c = search rules
