use Rattle.std.proofs.Common.{◌≡◌, map, sym, subst, arith, rules, w64, to_z, of_z}
use Rattle.std.proofs.lemmas.Int.{ints}
use Rattle.std.proofs.lemmas.Option.{slice_get_read}
use mir.Val.{SFits}
use Rattle.std.specs.Prelude.{slice_get, Some, length}
use Rattle.zic_states.specs.Change.{AreChanges}
use Rattle.zic_states.specs.Zone.{Zone}
use Rattle.zic_rules.specs.code.Period.{the_zone}
use Rattle.zic_rules.specs.Timeline.{change_of}
use Rattle.zic_rules.specs.code.Shown.{shown_by, dated}
use Rattle.zic_rules.proofs.TimelineFields.{are_changes, the_changes, change_at_place, is_within}
use Rattle.zic_rules.proofs.timelines.Timeline.change.Goals as goal

pub index-change-requires : goal.index-change-requires
index-change-requires c =
    let t = c.self.inside in
    let r = c.requires in
    let there = subst (λ (z : Zone). AreChanges z r.0) (sym c.self.view_is) r.1 in
    let same = the_changes (the_zone t.zone) t.end (shown_by t.first) (map dated t.changes.items) c.self.invariant.before_end r.0 there in
    let lt = is_within t.changes.items r.0 c.args.i same r.2 in
    search (rules, lt)

pub returns : goal.returns
returns c =
    let t = c.self.inside in
    let r = c.requires in
    let xs = t.changes.items in
    let cs = map dated xs in
    let zone = the_zone t.zone in
    let are = are_changes zone t.end (shown_by t.first) cs c.self.invariant.before_end in
    let there = subst (λ (z : Zone). AreChanges z r.0) (sym c.self.view_is) r.1 in
    let lt = is_within xs r.0 c.args.i (the_changes zone t.end (shown_by t.first) cs c.self.invariant.before_end r.0 there) r.2 in
    let x = c.index-change.result.now in
    let at : slice_get xs c.args.i ≡ Some x = slice_get_read xs (length xs) c.args.i x (search rules) lt c.index-change.ensures in
    let fits : SFits w64 x.instant = search rules in
    let same : to_z w64 (of_z w64 x.instant) ≡ x.instant = omega (arith, ints, fits) in (
      cs,
      subst (λ (z : Zone). AreChanges z cs) c.self.view_is are,
      change_at_place xs c.args.i x (change_of (to_z w64 (of_z w64 x.instant), c.state_of.result)) at same c.state_of.ensures,
    )
