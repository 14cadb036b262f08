use Rattle.zic_states.proofs.Timed.{AreTimed}
use Rattle.zic_states.proofs.walk.timed.Given as goal

abbrev pub invariant-loop-nominal : goal.invariant-loop-nominal
invariant-loop-nominal l = AreTimed l.source.rules l.offset l.nominals l.nominal-index l.timed.items l.saved
