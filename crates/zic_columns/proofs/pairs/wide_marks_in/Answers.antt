use Rattle.std.proofs.Common.{arith}
use Rattle.zic_columns.proofs.Masks.{marks_mask}
use Rattle.zic_columns.proofs.pairs.wide_marks_in.Goals as goal

pub returns : goal.returns
returns c = marks_mask 64 (omega arith) c.args.bytes.now c.args.at c.requires c.args.delimiter.byte
