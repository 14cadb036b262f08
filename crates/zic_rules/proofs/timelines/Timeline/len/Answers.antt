use Rattle.std.proofs.Common.{map, subst, rules}
use Rattle.zic_states.specs.Change.{AreChanges}
use Rattle.zic_states.specs.Zone.{Zone}
use Rattle.zic_rules.specs.code.Period.{the_zone}
use Rattle.zic_rules.specs.code.Shown.{shown_by, dated}
use Rattle.zic_rules.proofs.TimelineFields.{are_changes, as_many}
use Rattle.zic_rules.proofs.timelines.Timeline.len.Goals as goal

pub returns : goal.returns
returns c =
    let t = c.self.inside in
    let cs = map dated t.changes.items in
    let are = are_changes (the_zone t.zone) t.end (shown_by t.first) cs c.self.invariant.before_end in
    let many = as_many t.changes.items in
    (cs, subst (λ (z : Zone). AreChanges z cs) c.self.view_is are, search (rules, c.len.ensures, many))
