use Rattle.std.proofs.Common.{drop, replicate}
use Rattle.zic_zones.proofs.Held.{held_first}
use Rattle.zic_zones.proofs.name_keys.NameKey.of.Goals as goal

pub returns : goal.returns
returns c = held_first c.args.name.now c.copy_from_slice.new.self (drop c.min-len.result (replicate 32 0)) c.min-len.result c.min-len.ensures c.copy_from_slice.ensures.after
