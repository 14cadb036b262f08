use Rattle.std.proofs.Common.{◌≡◌, ◌++◌, map, take}
use Rattle.zic_rules.specs.code.Line.{period_at}
use Rattle.zic_rules.proofs.line.add_occurrences.Given as goal

abbrev pub invariant-loop-occurrence : goal.invariant-loop-occurrence
invariant-loop-occurrence l =
    l.periods.items ≡ l.initial.periods.items ++ map (period_at l.line) (take l.occurrence-index l.occurrences)
