use Rattle.zic_rules.specs.code.Period.{the_zone}
use Rattle.zic_rules.specs.code.Walk.{AreOrderedTo}
use Rattle.zic_rules.proofs.walk.order_of_rest.Given as goal

abbrev pub invariant-loop-number : goal.invariant-loop-number
invariant-loop-number l = AreOrderedTo (the_zone l.zone) l.number
