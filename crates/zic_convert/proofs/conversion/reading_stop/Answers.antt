use Rattle.std.proofs.Common.{rules}
use Rattle.zic_convert.proofs.conversion.reading_stop.Goals as goal

pub returns : goal.returns
returns c = search rules
