use Rattle.std.proofs.Common.{◌≡◌, ◌-◌, ℤ, pos, ◌-ℤ◌, List, length, sym, subst}
use Rattle.std.specs.Prelude.{slice_get, Some, None}
use Rattle.zic_states.specs.End.{IsEnd}
use Rattle.zic_states.specs.Zone.{Zone, Shows}
use Rattle.zic_states.proofs.Ends.{one_end}
use Rattle.zic_rules.specs.code.Period.{the_zone}
use Rattle.zic_rules.specs.declared.changes.DatedState.{DatedState}
use Rattle.zic_rules.specs.code.Shown.{shown_by}
use Rattle.zic_rules.proofs.TimelineFields.{after_last, without_changes}
use Rattle.zic_rules.proofs.timelines.Timeline.last_state.Goals as goal

pub returns-in-Some : goal.returns-in-Some
returns-in-Some c end is_end =
    let t = c.self.inside in
    let zone = the_zone t.zone in
    let in_force = c.self.invariant.before_end in
    let x = c.in-Some.change.now in
    let at : slice_get t.changes.items (length t.changes.items - 1) ≡ Some x =
    subst (λ (xs : List DatedState). slice_get xs (length xs - 1) ≡ Some x) c.deref.ensures.value (sym c.in-Some.ensures.value)
    in
    let shows = after_last zone t.end (shown_by t.first) t.changes.items in_force x at in
    let same = one_end zone in_force.orderly.sets t.end end in_force.is_end (subst (λ (z : Zone). IsEnd z end) (sym c.self.view_is) is_end) in
    subst (λ (z : Zone). Shows z (end -ℤ pos 1) (shown_by x.state)) c.self.view_is
    (subst (λ (e : ℤ). Shows zone (e -ℤ pos 1) (shown_by x.state)) same shows)

pub returns-in-None : goal.returns-in-None
returns-in-None c end is_end =
    let t = c.self.inside in
    let zone = the_zone t.zone in
    let in_force = c.self.invariant.before_end in
    let none : slice_get t.changes.items (length t.changes.items - 1) ≡ None =
    subst (λ (xs : List DatedState). slice_get xs (length xs - 1) ≡ None) c.deref.ensures.value (sym c.in-None.ensures.value)
    in
    let shows = without_changes zone t.end (shown_by t.first) t.changes.items in_force none in
    let same = one_end zone in_force.orderly.sets t.end end in_force.is_end (subst (λ (z : Zone). IsEnd z end) (sym c.self.view_is) is_end) in
    subst (λ (z : Zone). Shows z (end -ℤ pos 1) (shown_by t.first)) c.self.view_is
    (subst (λ (e : ℤ). Shows zone (e -ℤ pos 1) (shown_by t.first)) same shows)
