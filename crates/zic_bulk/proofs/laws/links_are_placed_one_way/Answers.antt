use Rattle.zic_bulk.proofs.OnePlacing.{one_linked_building}
use Rattle.zic_bulk.proofs.laws.links_are_placed_one_way.Goals as goal

pub returns : goal.returns
returns c = one_linked_building
