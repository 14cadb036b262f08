use Rattle.std.proofs.Common.{rules, subst}
use Rattle.zic_rules.specs.Timeline.{IsWholeZone}
use Rattle.zic_rules.proofs.TimelineFields.{whole_zone}
use Rattle.zic_rules.proofs.timelines.Timeline.end.Goals as goal

pub returns-clause-end : goal.returns-clause-end
returns-clause-end c = search rules

pub returns-clause-whole : goal.returns-clause-whole
returns-clause-whole c = subst IsWholeZone c.self.view_is (whole_zone _ _ _ _ c.self.invariant.before_end)
