use Rattle.std.proofs.Common.{arith}
use Rattle.zic_columns.proofs.Masks.{field_ends_mask}
use Rattle.zic_columns.proofs.blocks.field_ends_at.Goals as goal

pub returns : goal.returns
returns c = field_ends_mask 32 (omega arith) c.args.bytes.now c.args.at c.requires c.args.delimiter.byte
