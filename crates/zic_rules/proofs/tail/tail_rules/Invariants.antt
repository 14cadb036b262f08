-- Those of the rules before this one that go on for ever.
use Rattle.std.proofs.Common.{take}
use Rattle.zic_rules.specs.Tail.{AreTailRules}
use Rattle.zic_rules.specs.code.Tail.{continuing}
use Rattle.zic_rules.proofs.tail.tail_rules.Given as goal

abbrev pub invariant-loop-number : goal.invariant-loop-number
invariant-loop-number l = AreTailRules l.zone.source.now.rules l.line (continuing l.zone.source.now.rules (take l.number-index l.number-items)) l.rules.items
