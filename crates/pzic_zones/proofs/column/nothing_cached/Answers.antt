use Rattle.std.proofs.Common.{rules}
use Rattle.std.proofs.lemmas.List.Elements.{All-replicate}
use Rattle.pzic_zones.specs.code.Cached.{IsCached}
use Rattle.pzic_zones.proofs.Columns.{none-cached}
use Rattle.pzic_zones.proofs.column.nothing_cached.Goals as goal

pub returns : goal.returns
returns c = λ content. All-replicate (IsCached content) 1024 _ (none-cached content _ (search rules))
