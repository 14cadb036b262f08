use Rattle.std.proofs.Common.{arith}
use Rattle.zic_columns.proofs.walk.whole_record_end.Goals as goal

pub returns : goal.returns
returns c = c.own_len-len.ensures.ended (omega (arith, c.if-len-bytes.false, c.own_len-len.ensures.own.within))
