use Rattle.std.proofs.Common.{map, sym, subst}
use Rattle.zic_states.specs.Change.{IsFirstState}
use Rattle.zic_base.specs.State.{Shown}
use Rattle.zic_states.specs.Zone.{Zone}
use Rattle.zic_rules.specs.code.Period.{the_zone}
use Rattle.zic_rules.specs.code.Shown.{shown_by, dated}
use Rattle.zic_rules.proofs.TimelineFields.{is_first}
use Rattle.zic_rules.proofs.timelines.Timeline.first.Goals as goal

pub returns : goal.returns
returns c =
    let t = c.self.inside in
    let zone = the_zone t.zone in
    let first = is_first zone t.end (shown_by t.first) (map dated t.changes.items) c.self.invariant.before_end in
    subst (λ (s : Shown). IsFirstState c.args.self.now s) (sym c.state_of.ensures)
    (subst (λ (z : Zone). IsFirstState z (shown_by t.first)) c.self.view_is first)
