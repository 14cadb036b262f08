use Rattle.std.proofs.Common.{false}
use Rattle.std.proofs.lemmas.List.{get_or-replicate}
use Rattle.zic_columns.specs.declared.splits.TheConstants.{BATCH}
use Rattle.zic_piece_rows.proofs.pairs.none_same.Goals as goal

pub returns : goal.returns
returns c = λ i lt. get_or-replicate BATCH i false false lt
