use Rattle.zic_states.specs.code.Letters.{IsFirstOfStandard}
use Rattle.zic_states.proofs.observance.first_standard.Given as goal

abbrev pub invariant-loop-number : goal.invariant-loop-number
invariant-loop-number l = IsFirstOfStandard l.source.rules l.numbers l.number-index l.first
