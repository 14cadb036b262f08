use Rattle.zic_source.specs.Source.{set_rules}
use Rattle.zic_states.proofs.ApartSearch.{OfFirst, ApartFrom}
use Rattle.zic_states.proofs.apart.lies_apart.Given as goal

abbrev pub invariant-loop-other : goal.invariant-loop-other
invariant-loop-other l = OfFirst (ApartFrom (record { rules = l.source.rules; name = l.set }) l.number) (set_rules l.set l.source.rules) l.other-index
