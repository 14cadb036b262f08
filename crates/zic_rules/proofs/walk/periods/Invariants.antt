use Rattle.zic_rules.specs.code.Period.{the_zone}
use Rattle.zic_rules.specs.code.Walk.{IsWalkedTo}
use Rattle.zic_rules.proofs.walk.periods.Given as goal

abbrev pub invariant-loop-number : goal.invariant-loop-number
invariant-loop-number l = IsWalkedTo (the_zone l.zone) l.number l.start l.list.items
