use Rattle.std.proofs.lemmas.List.Elements.{All-set}
use Rattle.pzic_zones.specs.code.Cached.{IsCached}
use Rattle.pzic_zones.proofs.column.renew.Goals as goal

pub returns-clause-all : goal.returns-clause-all
returns-clause-all c =
    let made = c.cached_round-made in
    All-set (IsCached c.args.zone.now) c.args.cached.now c.args.slot made.result made.ensures.cached c.requires.all
