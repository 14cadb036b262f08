use Rattle.std.proofs.Common.{◌≡◌, ℤ, to_z, of_z, to_z-of_z, w64, subst, arith, rules}
use Rattle.std.proofs.lemmas.Int.{ints}
use Rattle.zic_posix.specs.Instants.{Includes}
use Rattle.zic_tzif.specs.Answer.{answered}
use Rattle.zic_dump.specs.Changes.{StaysSame}
use Rattle.zic_dump.proofs.Walks.{second_before, nearer, last_span, span_less, changes_between}
use Rattle.zic_dump.proofs.walk.last_change.Goals as goal

pub loop-span-init : goal.loop-span-init
loop-span-init c =
    let l = to_z-of_z c.ranges.last in
    let span = c.span-span.result.instants in
    let requested = subst (λ (z : ℤ). Includes span z) l c.span-span.ensures.requested in
    let from = requested.from in
    let to = requested.to in
    rw l (record {
      reached = from;
      some = omega (arith, ints, from, to);
      answers = c.span-span.ensures.answers;
      same = last_span c.args.zone.now span (answered c.span-span.result.answer) c.args.last c.span-span.ensures.answers requested;
      fits = search rules;
    })

pub returns-then-not-are_same : goal.returns-then-not-are_same
returns-then-not-are_same c =
    let inv = c.loop-span.invariant in
    let old = c.loop-span.span.instants.first in
    let f = to_z-of_z c.ranges.first in
    let l = to_z-of_z c.ranges.last in
    let e = to_z-of_z inv.fits in
    let test = c.loop-span-test.true in
    let previous = second_before old c.args.first inv.fits c.ranges.first (omega (arith, ints, test)) in
    let reached = inv.reached in
    let some = inv.some in
    let before = subst (λ (z : ℤ). Includes c.span-before.result.instants z) previous c.span-before.ensures.requested in
    let here : Includes c.loop-span.span.instants old = record { from = omega (arith, ints); to = some } in
    let differ : (answered c.span-before.result.answer ≡ answered c.loop-span.span.answer) → ⊥ = search rules in
    let same = subst (λ (z : ℤ). StaysSame c.args.zone.now old z) l inv.same in
    rw e (record {
      after = omega (arith, ints, test, e, f);
      within = omega (arith, ints, reached, l);
      changes = changes_between c.args.zone.now c.span-before.result.instants c.loop-span.span.instants (answered c.span-before.result.answer) (answered c.loop-span.span.answer)
          old before here c.span-before.ensures.answers inv.answers differ;
      none_after = same;
    })

pub loop-span-smaller : goal.loop-span-smaller
loop-span-smaller c =
    let inv = c.loop-span.invariant in
    let old = c.loop-span.span.instants.first in
    let e = to_z-of_z inv.fits in
    let f = to_z-of_z c.ranges.first in
    let test = c.loop-span-test.true in
    let previous = second_before old c.args.first inv.fits c.ranges.first (omega (arith, ints, test)) in
    let from = c.span-before.ensures.requested.from in
    nearer (to_z w64 (of_z w64 c.args.first)) old c.span-before.result.instants.first (omega (arith, ints, test, f, e)) (omega (arith, ints, from, previous))

pub loop-span-preserved : goal.loop-span-preserved
loop-span-preserved c =
    let inv = c.loop-span.invariant in
    let old = c.loop-span.span.instants.first in
    let test = c.loop-span-test.true in
    let previous = second_before old c.args.first inv.fits c.ranges.first (omega (arith, ints, test)) in
    let before = subst (λ (z : ℤ). Includes c.span-before.result.instants z) previous c.span-before.ensures.requested in
    let from = before.from in
    let to = before.to in
    let reached = inv.reached in
    let same : answered c.span-before.result.answer ≡ answered c.loop-span.span.answer = search rules in
    record {
      reached = omega (arith, ints, reached, from);
      some = omega (arith, ints, from, to);
      answers = c.span-before.ensures.answers;
      same = span_less c.args.zone.now c.span-before.result.instants c.loop-span.span.instants (answered c.span-before.result.answer) (answered c.loop-span.span.answer)
          old (to_z w64 (of_z w64 c.args.last)) (omega (arith, ints)) inv.some c.span-before.ensures.answers inv.answers before same inv.same;
      fits = search rules;
    }
