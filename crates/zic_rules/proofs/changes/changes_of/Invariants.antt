-- The changes so far.
use Rattle.std.proofs.Common.{map}
use Rattle.zic_rules.specs.code.Period.{the_zone}
use Rattle.zic_rules.specs.code.Shown.{AreChangesSoFar, shown_by, dated}
use Rattle.zic_rules.proofs.changes.changes_of.Given as goal

abbrev pub invariant-loop-period : goal.invariant-loop-period
invariant-loop-period l =
    AreChangesSoFar (the_zone l.zone) l.all (shown_by l.fn.first) l.period-index (shown_by l.last) (map dated l.changes.items)
