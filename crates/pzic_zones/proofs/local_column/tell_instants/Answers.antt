use Rattle.zic_local.proofs.Indexing.{if_lent}
use Rattle.zic_local.specs.Index.{IsIndexOf}
use Rattle.pzic_zones.proofs.local_column.tell_instants.Goals as goal

pub write-requires-clause-index : goal.write-requires-clause-index
write-requires-clause-index c = if_lent c.as_ref.result c.index_for-index.result (IsIndexOf c.args.zone.now) c.as_ref.ensures.value c.index_for-index.ensures
