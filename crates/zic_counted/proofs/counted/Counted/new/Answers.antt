use Rattle.std.proofs.Common.{rules}
use Rattle.zic_counted.proofs.counted.Counted.new.Goals as goal

pub returns : goal.returns
returns c = search rules
