use Rattle.zic_states.proofs.SharedLists.{names_set}
use Rattle.zic_states.proofs.listed_source.timed_listing_of.Goals as goal

pub list_set-requires-clause-set : goal.list_set-requires-clause-set
list_set-requires-clause-set c = names_set c.args.source.now.rules c.args.number c.rule.result.now c.rule.ensures.rule
