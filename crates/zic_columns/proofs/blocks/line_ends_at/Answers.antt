use Rattle.std.proofs.Common.{arith}
use Rattle.zic_columns.proofs.Masks.{line_ends_mask}
use Rattle.zic_columns.proofs.blocks.line_ends_at.Goals as goal

pub returns : goal.returns
returns c = line_ends_mask 64 (omega arith) c.args.bytes.now c.args.at c.requires
