use Rattle.std.proofs.Common.{◌≡◌, ℕ, length, get_or, ap, subst, arith}
use Rattle.zic_rules.specs.code.Period.{the_zone}
use Rattle.zic_rules.specs.code.Shown.{ShowsSomeTo}
use Rattle.zic_rules.specs.declared.line.Period.{Period}
use Rattle.std.specs.Prelude.{List}
use Rattle.zic_rules.proofs.TimelineStates.{nowhere, item_at, held_first, held_at, some_first, some_next, some_to_end}
use Rattle.zic_rules.proofs.TimelineFaults.{no_letter_lacks}
use Rattle.zic_rules.proofs.changes.lacks_letter.Goals as goal

pub lacks_letter_at-requires-clause-held : goal.lacks_letter_at-requires-clause-held
lacks_letter_at-requires-clause-held c = held_first (the_zone c.args.zone) c.args.all.now c.requires.periods.periods

pub loop-period-init : goal.loop-period-init
loop-period-init c =
    let has = c.lacks_letter_at.ensures.has c.if-lacks_letter_at.false in
    some_first (the_zone c.args.zone) c.args.all.now c.requires.periods.periods has.0 has.1

pub lacks_letter_at-requires-in-loop-period-clause-held : goal.lacks_letter_at-requires-in-loop-period-clause-held
lacks_letter_at-requires-in-loop-period-clause-held c =
    let ys = c.deref-period-items.result.now in
    let i = c.loop-period.period-index in
    held_at (the_zone c.args.zone) c.args.all.now c.requires.periods.periods i (get_or ys i nowhere)
    (item_at c.args.all.now.list.items ys i c.deref-period-items.ensures.value c.loop-period-test.true)

pub loop-period-preserved : goal.loop-period-preserved
loop-period-preserved c =
    let ys = c.deref-period-items.result.now in
    let i = c.loop-period.period-index in
    let has = c.lacks_letter_at-in-loop-period.ensures.has c.if-lacks_letter_at-2.false in
    some_next (the_zone c.args.zone) c.args.all.now c.requires.periods.periods i (get_or ys i nowhere) has.0
    (item_at c.args.all.now.list.items ys i c.deref-period-items.ensures.value c.loop-period-test.true) has.1 c.loop-period.invariant

pub returns-clause-has : goal.returns-clause-has
returns-clause-has c _ =
    let zone = the_zone c.args.zone in
    let all = c.args.all.now in
    let same = ap (λ (xs : List Period). length xs) c.deref-period-items.ensures.value in
    let end : c.loop-period.period-index ≡ length all.list.items = omega (arith, same, c.loop-period-test.false, c.loop-period.auto.period-index-end) in
    no_letter_lacks zone c.requires.periods.orderly all.end c.requires.periods.is_end
    (some_to_end zone all c.requires.periods.periods (subst (λ (n : ℕ). ShowsSomeTo zone all n) end c.loop-period.invariant))
