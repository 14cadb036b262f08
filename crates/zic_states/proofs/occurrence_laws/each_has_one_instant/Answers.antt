use Rattle.zic_states.proofs.Same.{one_instant}
use Rattle.zic_states.proofs.Instants.{some_instant}
use Rattle.zic_states.proofs.occurrence_laws.each_has_one_instant.Goals as goal

pub returns : goal.returns
returns c = record {
  some = some_instant;
  only = λ set offset o t u order. one_instant set offset o t u order.differ;
}
