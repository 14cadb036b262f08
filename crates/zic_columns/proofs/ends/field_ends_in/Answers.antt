use Rattle.std.proofs.Common.{arith}
use Rattle.zic_columns.proofs.Masks.{field_ends_mask}
use Rattle.zic_columns.proofs.ends.field_ends_in.Goals as goal

pub returns : goal.returns
returns c = field_ends_mask 64 (omega arith) c.args.bytes.now c.args.at c.requires c.args.delimiter.byte
