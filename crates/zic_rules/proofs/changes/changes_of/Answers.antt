use Rattle.std.proofs.Common.{◌≡◌, ◌++◌, List, [], ◌∷◌, length, get_or, map, sym, ap, subst, arith, rules}
use Rattle.zic_rules.specs.code.Period.{the_zone}
use Rattle.zic_rules.specs.code.Shown.{AreChangesSoFar, shown_by, dated}
use Rattle.zic_rules.specs.declared.changes.DatedState.{DatedState}
use Rattle.zic_rules.specs.declared.line.Period.{Period}
use Rattle.zic_rules.proofs.TimelineStates.{nowhere, item_at, held_at, unnamed_from, states_same, states_differ, so_far_first, so_far_same, so_far_pushed, so_far_to_end}
use Rattle.zic_rules.proofs.changes.changes_of.Goals as goal
use Rattle.zic_rules.proofs.changes.changes_of.Goals.{then-ne+in_ok-push-in-Ok, else-ne}

pub loop-period-init : goal.loop-period-init
loop-period-init c =
    let zone = the_zone c.args.zone in
    subst (λ (xs : List DatedState). AreChangesSoFar zone c.args.all.now (shown_by c.args.first.now) 0 (shown_by c.args.first.now) (map dated xs)) (sym c.in_ok-changes.ensures.items)
    (so_far_first zone c.args.all.now c.requires.periods.periods (shown_by c.args.first.now) c.requires.first c.requires.within)

pub state_at-requires-clause-held : goal.state_at-requires-clause-held
state_at-requires-clause-held c =
    let ys = c.deref-period-items.result.now in
    let i = c.loop-period.period-index in
    held_at (the_zone c.args.zone) c.args.all.now c.requires.periods.periods i (get_or ys i nowhere)
    (item_at c.args.all.now.list.items ys i c.deref-period-items.ensures.value c.loop-period-test.true)

pub refusal-requires-clause-unnamed : goal.refusal-requires-clause-unnamed
refusal-requires-clause-unnamed c =
    let ys = c.deref-period-items.result.now in
    let i = c.loop-period.period-index in
    let zone = the_zone c.args.zone in
    let s = get_or ys i nowhere in
    unnamed_from zone s.line s.rule c.in-Err.kind
    (held_at zone c.args.all.now c.requires.periods.periods i s
    (item_at c.args.all.now.list.items ys i c.deref-period-items.ensures.value c.loop-period-test.true))
    c.in-Err.ensures.err

pub loop-period-preserved : goal.loop-period-preserved
loop-period-preserved c =
    let zone = the_zone c.args.zone in
    let all = c.args.all.now in
    let known = c.requires.periods.periods in
    let ys = c.deref-period-items.result.now in
    let i = c.loop-period.period-index in
    let s = get_or ys i nowhere in
    let at = item_at all.list.items ys i c.deref-period-items.ensures.value c.loop-period-test.true in
    let state = c.in-Ok.state in
    let last = c.loop-period.last in
    let first = shown_by c.args.first.now in
    let old = c.loop-period.changes.items in
    elim c.if-ne.branch [
      | then-ne+in_ok-push-in-Ok w ↦
          let differs = states_differ state last c.ne.result c.ne.ensures w.if-ne.true in
          let items : w.push.new.self.items ≡ old ++ record { instant = s.from; state = state } ∷ [] = search rules in
          rw (w.last-is, w.changes-is)
          (so_far_pushed zone all known first i s last state old w.push.new.self.items at c.in-Ok.ensures.ok c.in-Ok.ensures.within differs items
          c.loop-period.invariant)
      | else-ne w ↦
          let same = states_same state last c.ne.result c.ne.ensures w.if-ne.false in
          rw (w.last-is, w.changes-is)
          (so_far_same zone all known first i s (shown_by last) (shown_by state) (map dated old) at c.in-Ok.ensures.ok c.in-Ok.ensures.within same
          c.loop-period.invariant)
    ]

pub returns-clause-ok : goal.returns-clause-ok
returns-clause-ok c =
    let all = c.args.all.now in
    let same = ap (λ (xs : List Period). length xs) c.deref-period-items.ensures.value in
    let end : c.loop-period.period-index ≡ length all.list.items = omega (arith, same, c.loop-period-test.false, c.loop-period.auto.period-index-end) in
    so_far_to_end (the_zone c.args.zone) all c.requires.periods.periods (shown_by c.args.first.now) c.loop-period.period-index
    (shown_by c.loop-period.last) (map dated c.loop-period.changes.items) end c.loop-period.invariant
