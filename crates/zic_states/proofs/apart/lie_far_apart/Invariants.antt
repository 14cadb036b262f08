use Rattle.zic_source.specs.Source.{set_rules}
use Rattle.zic_states.specs.code.Apart.{LiesApart}
use Rattle.zic_states.proofs.ApartSearch.{OfFirst}
use Rattle.zic_states.proofs.apart.lie_far_apart.Given as goal

abbrev pub invariant-loop-number : goal.invariant-loop-number
invariant-loop-number l = OfFirst (LiesApart (record { rules = l.source.rules; name = l.set })) (set_rules l.set l.source.rules) l.number-index
