-- Up to this period the zone shows some state at each instant.
use Rattle.zic_rules.specs.code.Period.{the_zone}
use Rattle.zic_rules.specs.code.Shown.{ShowsSomeTo}
use Rattle.zic_rules.proofs.changes.lacks_letter.Given as goal

abbrev pub invariant-loop-period : goal.invariant-loop-period
invariant-loop-period l = ShowsSomeTo (the_zone l.zone) l.all l.period-index
