use Rattle.zic_zones.proofs.tree_zones.TreeZones.new.Goals as goal

pub invariant_of-result : goal.invariant_of-result
invariant_of-result g c = c.new-2.ensures c.new.result.files
