use Rattle.zic_states.proofs.Members.{member_within}
use Rattle.zic_causes.proofs.names.refused_rule.Goals as goal

pub rule-rule-requires : goal.rule-rule-requires
rule-rule-requires c = member_within (record { rules = c.args.source.now.rules; name = c.args.set.now }) c.set_rules-number-items.result.now c.loop-number.number-index c.set_rules-number-items.ensures c.loop-number-test.true
