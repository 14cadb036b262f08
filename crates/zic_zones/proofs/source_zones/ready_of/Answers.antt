use Rattle.zic_zones.proofs.source_zones.ready_of.Goals as goal

pub extend-requires : goal.extend-requires
extend-requires c = c.new-ready.ensures c.args.files.now
