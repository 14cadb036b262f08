use Rattle.std.proofs.Common.{◌≡◌, map, sym, subst, arith, rules, ℤ, w64, to_z, of_z}
use Rattle.std.proofs.lemmas.Int.{ints}
use mir.Val.{SFits}
use Rattle.zic_rules.specs.code.Period.{the_zone}
use Rattle.zic_rules.specs.code.Shown.{IsTimeline, shown_by, dated}
use Rattle.zic_rules.proofs.TimelineFaults.{timeline}
use Rattle.zic_rules.proofs.compile.timeline_of.Goals as goal

pub new-requires-clause-timeline : goal.new-requires-clause-timeline
new-requires-clause-timeline c =
    let known = c.requires.periods in
    let zone = the_zone c.args.zone in
    let end = c.args.all.now.end in
    let first = shown_by c.in_ok-first.first in
    let cs = map dated c.in_ok-changes.changes.items in
    let fits : SFits w64 end = search rules in
    let same : to_z w64 (of_z w64 end) ≡ end = omega (arith, ints, fits) in
    subst (λ (e : ℤ). IsTimeline zone e first cs) (sym same)
    (timeline zone known.orderly end known.is_end first cs c.in_ok-changes.ensures.ok c.args.zone.is_zone known.in_range)
