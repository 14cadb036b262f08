-- All before this one are within 24 hours.
use Rattle.zic_rules.specs.code.Shown.{AreAllInRange}
use Rattle.zic_rules.proofs.offsets.are_totals_in_range.Given as goal

abbrev pub invariant-loop-number : goal.invariant-loop-number
invariant-loop-number l = AreAllInRange l.source.rules l.offset l.numbers l.number-index
