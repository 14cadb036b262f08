use Rattle.std.proofs.Common.{◌≡◌, ℤ, pos, ◌+ℤ◌, ◌-ℤ◌, to_z, of_z, to_z-of_z, w64, subst, arith, rules}
use Rattle.std.proofs.lemmas.Int.{ints}
use Rattle.zic_posix.specs.Instants.{Includes}
use Rattle.zic_tzif.specs.Answer.{answered}
use Rattle.zic_dump.specs.Changes.{StaysSame}
use Rattle.zic_dump.proofs.ChangeLemmas.{smaller}
use Rattle.zic_dump.proofs.Walks.{next_second, first_span, span_more, changes_between}
use Rattle.zic_dump.proofs.walk.first_change.Goals as goal

pub loop-span-init : goal.loop-span-init
loop-span-init c =
    let f = to_z-of_z c.ranges.first in
    let span = c.span-span.result.instants in
    let requested = subst (λ (z : ℤ). Includes span z) f c.span-span.ensures.requested in
    let from = requested.from in
    let to = requested.to in
    rw f (record {
      reached = to;
      some = omega (arith, ints, from, to);
      answers = c.span-span.ensures.answers;
      same = first_span c.args.zone.now span (answered c.span-span.result.answer) c.args.first c.span-span.ensures.answers requested;
      fits = search rules;
    })

pub returns-then-not-are_same : goal.returns-then-not-are_same
returns-then-not-are_same c =
    let inv = c.loop-span.invariant in
    let old = c.loop-span.span.instants.last in
    let f = to_z-of_z c.ranges.first in
    let l = to_z-of_z c.ranges.last in
    let e = to_z-of_z inv.fits in
    let test = c.loop-span-test.true in
    let next = next_second old c.args.last inv.fits c.ranges.last (omega (arith, ints, test)) in
    let reached = inv.reached in
    let some = inv.some in
    let here = subst (λ (z : ℤ). Includes c.span-next.result.instants z) next c.span-next.ensures.requested in
    let before : Includes c.loop-span.span.instants ((old +ℤ pos 1) -ℤ pos 1) = record { from = omega (arith, ints, some); to = omega (arith, ints) } in
    let differ : (answered c.loop-span.span.answer ≡ answered c.span-next.result.answer) → ⊥ = search rules in
    let end : old ≡ (old +ℤ pos 1) -ℤ pos 1 = omega (arith, ints) in
    let same = subst (λ (z : ℤ). StaysSame c.args.zone.now z old) f inv.same in
    rw next (record {
      after = omega (arith, ints, reached, f);
      within = omega (arith, ints, test, e, l);
      changes = changes_between c.args.zone.now c.loop-span.span.instants c.span-next.result.instants (answered c.loop-span.span.answer) (answered c.span-next.result.answer)
          (old +ℤ pos 1) before here inv.answers c.span-next.ensures.answers differ;
      none_before = subst (λ (z : ℤ). StaysSame c.args.zone.now c.args.first z) end same;
    })

pub loop-span-smaller : goal.loop-span-smaller
loop-span-smaller c =
    let inv = c.loop-span.invariant in
    let old = c.loop-span.span.instants.last in
    let e = to_z-of_z inv.fits in
    let l = to_z-of_z c.ranges.last in
    let test = c.loop-span-test.true in
    let next = next_second old c.args.last inv.fits c.ranges.last (omega (arith, ints, test)) in
    let to = c.span-next.ensures.requested.to in
    smaller (to_z w64 (of_z w64 c.args.last)) old c.span-next.result.instants.last (omega (arith, ints, test, l, e)) (omega (arith, ints, to, next))

pub loop-span-preserved : goal.loop-span-preserved
loop-span-preserved c =
    let inv = c.loop-span.invariant in
    let old = c.loop-span.span.instants.last in
    let test = c.loop-span-test.true in
    let next = next_second old c.args.last inv.fits c.ranges.last (omega (arith, ints, test)) in
    let here = subst (λ (z : ℤ). Includes c.span-next.result.instants z) next c.span-next.ensures.requested in
    let from = here.from in
    let to = here.to in
    let reached = inv.reached in
    let same : answered c.loop-span.span.answer ≡ answered c.span-next.result.answer = search rules in
    record {
      reached = omega (arith, ints, reached, to);
      some = omega (arith, ints, from, to);
      answers = c.span-next.ensures.answers;
      same = span_more c.args.zone.now c.loop-span.span.instants c.span-next.result.instants (answered c.loop-span.span.answer) (answered c.span-next.result.answer)
          (to_z w64 (of_z w64 c.args.first)) (old +ℤ pos 1) (omega (arith, ints)) inv.some inv.answers c.span-next.ensures.answers here same inv.same;
      fits = search rules;
    }
