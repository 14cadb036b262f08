use Rattle.zic_table.specs.code.Transitions.{AreTransitionsTo}
use Rattle.zic_table.proofs.transitions.transitions.Given as goal

abbrev pub invariant-loop-i : goal.invariant-loop-i
invariant-loop-i l = AreTransitionsTo l.t l.i l.numbering l.changes.items
