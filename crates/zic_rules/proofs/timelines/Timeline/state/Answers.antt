use Rattle.std.proofs.Common.{◌≡◌, ◌-◌, ◌<◌, suc, List, map, refl, sym, ap, subst, arith, rules, length}
use Rattle.std.specs.Prelude.{int_le, slice_get, Some, ◌<ℤ◌}
use Rattle.std.proofs.lemmas.List.Sorted.{IsPartitionPoint-from_clause}
use Rattle.std.proofs.lemmas.Option.{slice_get_read}
use Rattle.zic_states.specs.End.{IsEnd}
use Rattle.zic_base.specs.State.{Shown}
use Rattle.zic_states.specs.Zone.{Zone, Shows}
use Rattle.zic_rules.specs.code.Period.{the_zone}
use Rattle.zic_rules.specs.code.Shown.{IsTimeline, shown_by, dated}
use Rattle.zic_rules.specs.declared.changes.DatedState.{DatedState}
use Rattle.zic_rules.proofs.TimelineFields.{are_changes, parted_dated, state_first, state_nth}
use Rattle.zic_rules.proofs.timelines.Timeline.state.Goals as goal

pub returns-then-count-eq0 : goal.returns-then-count-eq0
returns-then-count-eq0 c =
    let t = c.self.inside in
    let zone = the_zone t.zone in
    let first = shown_by t.first in
    let ys = c.deref.result.now in
    let in_force = subst (λ (zs : List DatedState). IsTimeline zone t.end first (map dated zs)) (sym c.deref.ensures.value) c.self.invariant.before_end in
    let before : c.args.t <ℤ t.end = c.requires t.end (subst (λ (z : Zone). IsEnd z t.end) c.self.view_is c.self.invariant.before_end.is_end) in
    let point = IsPartitionPoint-from_clause (λ (x : DatedState). int_le x.instant c.args.t) ys c.partition_point-count.result
    c.partition_point-count.ensures.partitioned (parted_dated ys c.args.t (are_changes zone t.end first (map dated ys) in_force).rising) (λ a r q k. search rules) in
    let shows = state_first zone t.end first ys in_force c.args.t before c.partition_point-count.result point c.if-count-eq0.true in
    subst (λ (s : Shown). Shows c.args.self.now c.args.t s) (sym c.state_of.ensures) (subst (λ (z : Zone). Shows z c.args.t first) c.self.view_is shows)

pub returns : goal.returns
returns c =
    let t = c.self.inside in
    let zone = the_zone t.zone in
    let first = shown_by t.first in
    let xs = t.changes.items in
    let ys = c.deref.result.now in
    let in_force = subst (λ (zs : List DatedState). IsTimeline zone t.end first (map dated zs)) (sym c.deref.ensures.value) c.self.invariant.before_end in
    let before : c.args.t <ℤ t.end = c.requires t.end (subst (λ (z : Zone). IsEnd z t.end) c.self.view_is c.self.invariant.before_end.is_end) in
    let n = c.partition_point-count.result in
    let point = IsPartitionPoint-from_clause (λ (x : DatedState). int_le x.instant c.args.t) ys n
    c.partition_point-count.ensures.partitioned (parted_dated ys c.args.t (are_changes zone t.end first (map dated ys) in_force).rising) (λ a r q k. search rules) in
    let some = c.if-count-eq0.false in
    let is : n ≡ suc (n - 1) = omega (arith, some) in
    let bound = c.partition_point-count.ensures.bound in
    let same = ap (λ (zs : List DatedState). length zs) c.deref.ensures.value in
    let within : n - 1 < length xs = omega (arith, is, bound, same) in
    let x = c.index.result.now in
    let at : slice_get xs (n - 1) ≡ Some x = slice_get_read xs (length xs) (n - 1) x refl within c.index.ensures in
    let at_too = subst (λ (zs : List DatedState). slice_get zs (n - 1) ≡ Some x) (sym c.deref.ensures.value) at in
    let shows = state_nth zone t.end first ys in_force c.args.t before n point (n - 1) x is at_too in
    subst (λ (s : Shown). Shows c.args.self.now c.args.t s) (sym c.state_of-2.ensures) (subst (λ (z : Zone). Shows z c.args.t (shown_by x.state)) c.self.view_is shows)
