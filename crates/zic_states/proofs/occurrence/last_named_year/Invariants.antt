use Rattle.zic_source.specs.Source.{set_rules}
use Rattle.zic_states.proofs.LastNamed.{IsGreatest}
use Rattle.zic_states.proofs.occurrence.last_named_year.Given as goal

abbrev pub invariant-loop-number : goal.invariant-loop-number
invariant-loop-number l = IsGreatest (record { rules = l.source.rules; name = l.set }) (set_rules l.set l.source.rules) l.number-index l.greatest
