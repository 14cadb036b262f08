use Rattle.pzic_zones.proofs.column.write_many.Goals as goal

pub write_with-requires-clause-cached : goal.write_with-requires-clause-cached
write_with-requires-clause-cached c = c.nothing_cached-cached.ensures c.args.zone.now
