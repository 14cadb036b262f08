use Rattle.zic_states.proofs.LineWalk.{IsPassedOnLine}
use Rattle.zic_states.proofs.until.saved_by_set.Given as goal

abbrev pub invariant-loop-occurrence : goal.invariant-loop-occurrence
invariant-loop-occurrence l = IsPassedOnLine l.source.rules l.line l.until l.occurrences l.occurrence-index l.saved
