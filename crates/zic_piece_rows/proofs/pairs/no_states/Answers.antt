use Rattle.std.proofs.lemmas.List.{get_or-replicate}
use Rattle.zic_zones.specs.declared.slot.TheConstants.{UNKNOWN}
use Rattle.zic_columns.specs.declared.splits.TheConstants.{BATCH}
use Rattle.zic_piece_rows.proofs.pairs.no_states.Goals as goal

pub returns : goal.returns
returns c = λ i lt. get_or-replicate BATCH i UNKNOWN 0 lt
