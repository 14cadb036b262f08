use Rattle.std.proofs.Common.{◌≡◌, ℤ, pos, ◌+ℤ◌, ◌<ℤ◌, ◌≤ℤ◌, [], ◌∷◌, ◌++◌, to_z, of_z, to_z-of_z, w64, FitsSigned, sym, subst, ◌∙◌, append-nil, arith, rules}
use Rattle.std.proofs.lemmas.Int.{ints}
use Rattle.zic_posix.specs.Instants.{Includes}
use Rattle.zic_tzif.specs.Answer.{answered}
use Rattle.zic_dump.specs.Changes.{AreChanges}
use Rattle.zic_dump.specs.code.Listed.{IsListed}
use Rattle.zic_dump.proofs.ChangeLemmas.{step_same, step_change, step_last, text_more, smaller}
use Rattle.zic_dump.proofs.changes.push_changes.Goals as goal

-- the instant after a span's last, which isn't the last of all
next_is : (old last : ℤ) → FitsSigned w64 old → FitsSigned w64 last → to_z w64 (of_z w64 old) <ℤ to_z w64 (of_z w64 last)
    → to_z w64 (of_z w64 (to_z w64 (of_z w64 old) +ℤ pos 1)) ≡ old +ℤ pos 1
next_is old last fits end before =
    let e = to_z-of_z fits in
    let l = to_z-of_z end in
    let earlier : old <ℤ last = omega (arith, ints, e, l, before) in
    let more : FitsSigned w64 (old +ℤ pos 1) = search rules in
    rw e (to_z-of_z more)

pub loop-span-init : goal.loop-span-init
loop-span-init c =
    let f = to_z-of_z c.ranges.first in
    let l = to_z-of_z c.ranges.last in
    let order = c.requires.order in
    let requested = subst (λ (z : ℤ). Includes c.span-span.result.instants z) f c.span-span.ensures.requested in
    rw (f, l) (
      c.args.first,
      [],
      requested,
      omega (arith, ints),
      omega (arith, ints, order),
      c.span-span.ensures.answers,
      λ t after before change. absurd (omega (arith, ints, after, before)),
      sym (append-nil c.args.text.now.items),
      search rules,
    )

pub push_change-requires-clause-listed : goal.push_change-requires-clause-listed
push_change-requires-clause-listed c =
    let old = c.loop-span.span.instants.last in
    let fits = c.loop-span.invariant.8 in
    let e = to_z-of_z fits in
    let next = next_is old c.args.last fits c.ranges.last (let test = c.loop-span-test.true in omega (arith, ints, test)) in
    let inv = c.loop-span.invariant in
    let to = inv.2.to in
    let from = inv.3 in
    let f = to_z-of_z c.ranges.first in
    let test = c.loop-span-test.true in
    let l = to_z-of_z c.ranges.last in
    let low = c.requires.from.low in
    let high = c.requires.to.high in
    subst (λ (z : ℤ). IsListed z) (sym next) (record { low = omega (arith, ints, to, from, f, low); high = omega (arith, ints, test, high, e, l) })

pub push_change-requires-clause-offset : goal.push_change-requires-clause-offset
push_change-requires-clause-offset c = c.requires.offsets _ (answered c.span-next.result.answer) (c.span-next.ensures.answers _ c.span-next.ensures.requested)

pub loop-span-smaller : goal.loop-span-smaller
loop-span-smaller c =
    let old = c.loop-span.span.instants.last in
    let fits = c.loop-span.invariant.8 in
    let e = to_z-of_z fits in
    let next = next_is old c.args.last fits c.ranges.last (let test = c.loop-span-test.true in omega (arith, ints, test)) in
    let l = to_z-of_z c.ranges.last in
    let test = c.loop-span-test.true in
    let to = c.span-next.ensures.requested.to in
    smaller (to_z w64 (of_z w64 c.args.last)) old c.span-next.result.instants.last (omega (arith, ints, test, l, e)) (omega (arith, ints, to, next))

pub loop-span-smaller-in_ok-push_change : goal.loop-span-smaller-in_ok-push_change
loop-span-smaller-in_ok-push_change c =
    let old = c.loop-span.span.instants.last in
    let fits = c.loop-span.invariant.8 in
    let e = to_z-of_z fits in
    let next = next_is old c.args.last fits c.ranges.last (let test = c.loop-span-test.true in omega (arith, ints, test)) in
    let l = to_z-of_z c.ranges.last in
    let test = c.loop-span-test.true in
    let to = c.span-next.ensures.requested.to in
    smaller (to_z w64 (of_z w64 c.args.last)) old c.span-next.result.instants.last (omega (arith, ints, test, l, e)) (omega (arith, ints, to, next))

pub loop-span-preserved : goal.loop-span-preserved
loop-span-preserved c =
    let old = c.loop-span.span.instants.last in
    let at = old +ℤ pos 1 in
    let fits = c.loop-span.invariant.8 in
    let e = to_z-of_z fits in
    let next = next_is old c.args.last fits c.ranges.last (let test = c.loop-span-test.true in omega (arith, ints, test)) in
    let l = to_z-of_z c.ranges.last in
    let inv = c.loop-span.invariant in
    let from = inv.3 in
    let to = inv.2.to in
    let test = c.loop-span-test.true in
    let requested = subst (λ (z : ℤ). Includes c.span-next.result.instants z) next c.span-next.ensures.requested in
    let same : answered c.loop-span.span.answer ≡ answered c.span-next.result.answer = search rules in
    let first = to_z w64 (of_z w64 c.args.first) in (
      at,
      inv.1,
      requested,
      omega (arith, ints, from, to),
      omega (arith, ints, test, l, e),
      c.span-next.ensures.answers,
      step_same c.args.zone.now first inv.0 c.loop-span.span.instants c.span-next.result.instants (answered c.loop-span.span.answer) (answered c.span-next.result.answer)
          inv.1 inv.3 inv.2 inv.5 c.span-next.ensures.answers inv.6 at (omega (arith, ints)) requested same,
      inv.7,
      search rules,
    )

pub loop-span-preserved-in_ok-push_change : goal.loop-span-preserved-in_ok-push_change
loop-span-preserved-in_ok-push_change c =
    let old = c.loop-span.span.instants.last in
    let fits = c.loop-span.invariant.8 in
    let e = to_z-of_z fits in
    let next = next_is old c.args.last fits c.ranges.last (let test = c.loop-span-test.true in omega (arith, ints, test)) in
    let l = to_z-of_z c.ranges.last in
    let inv = c.loop-span.invariant in
    let from = inv.3 in
    let to = inv.2.to in
    let test = c.loop-span-test.true in
    let pushed = c.in_ok-push_change.ensures in
    let change = pushed.0 in
    let is : change.instant ≡ old +ℤ pos 1 = pushed.1 ∙ next in
    let requested = subst (λ (z : ℤ). Includes c.span-next.result.instants z) (sym pushed.1) c.span-next.ensures.requested in
    let differ : (answered c.loop-span.span.answer ≡ answered c.span-next.result.answer) → ⊥ = search rules in
    let first = to_z w64 (of_z w64 c.args.first) in (
      change.instant,
      inv.1 ++ change ∷ [],
      requested,
      omega (arith, ints, from, to, is),
      omega (arith, ints, test, l, e, is),
      c.span-next.ensures.answers,
      step_change c.args.zone.now first inv.0 c.loop-span.span.instants c.span-next.result.instants (answered c.loop-span.span.answer) (answered c.span-next.result.answer)
          inv.1 inv.3 inv.2 inv.5 c.span-next.ensures.answers inv.6 change is requested differ pushed.2 pushed.3,
      text_more c.args.text.now.items c.loop-span.text.items c.push_change.new.text.items inv.1 change inv.7 pushed.4,
      search rules,
    )

pub returns : goal.returns
returns c =
    let inv = c.loop-span.invariant in
    let f = to_z-of_z c.ranges.first in
    let l = to_z-of_z c.ranges.last in
    let later = inv.4 in
    let test = c.loop-span-test.false in
    let e = to_z-of_z inv.8 in
    let are = subst (λ (z : ℤ). AreChanges c.args.zone.now z inv.0 inv.1) f inv.6 in
    let order = subst (λ (z : ℤ). z ≤ℤ inv.0) f inv.3 in (
      inv.1,
      step_last c.args.zone.now c.args.first inv.0 c.loop-span.span.instants c.loop-span.span.instants (answered c.loop-span.span.answer) (answered c.loop-span.span.answer)
          inv.1 order inv.2 inv.5 inv.5 are c.args.last (omega (arith, ints, later, l)) (omega (arith, ints, test, e, l)),
      inv.7,
    )
