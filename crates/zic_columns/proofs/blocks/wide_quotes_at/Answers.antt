use Rattle.std.proofs.Common.{arith}
use Rattle.zic_columns.proofs.Masks.{quotes_mask}
use Rattle.zic_columns.proofs.blocks.wide_quotes_at.Goals as goal

pub returns : goal.returns
returns c = quotes_mask 64 (omega arith) c.args.bytes.now c.args.at c.requires
