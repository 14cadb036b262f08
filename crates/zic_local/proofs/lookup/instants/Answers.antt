use Rattle.std.proofs.Common.{ℤ, to_z, of_z, to_z-of_z, w64, sym, subst, arith, rules}
use Rattle.std.proofs.lemmas.Int.{ints}
use Rattle.zic_tzif.specs.Answer.{answered}
use Rattle.zic_local.specs.declared.local_time.LocalInstants.{LocalInstants}
use Rattle.zic_local.specs.LocalTime.{AnswersLocal}
use Rattle.zic_local.specs.code.Walk.{with_instant, IsWalked}
use Rattle.zic_local.proofs.Steps.{near_answer, known_all}
use Rattle.zic_local.proofs.Walking.{walk_first, walk_more, count_gap, smaller}
use Rattle.zic_local.proofs.lookup.instants.Goals as goal

pub instant_in-requires-clause-near : goal.instant_in-requires-clause-near
instant_in-requires-clause-near c =
    let s = c.span-span in
    near_answer c.args.zone.now c.args.local c.requires.offsets s.result.instants (answered s.result.answer) s.ensures.answers _ s.ensures.requested

pub loop-span-init : goal.loop-span-init
loop-span-init c =
    let content = c.args.zone.now in
    let local = to_z w64 (of_z w64 c.args.local) in
    let f = to_z-of_z c.ranges.local in
    let s = c.span-span in
    let low = c.requires.range.low in
    let high = c.requires.range.high in
    subst (λ (given : LocalInstants). IsWalked content local s.result.instants (answered s.result.answer) given) (sym c.with_instant-given.ensures)
    (walk_first content local c.requires.offsets s.result.instants (answered s.result.answer) c.instant_in.result _
    s.ensures.answers s.ensures.changes s.ensures.requested (omega (arith, ints, f, low, high)) (search rules) c.instant_in.ensures)

pub gap_at-gap-requires-clause-near_before : goal.gap_at-gap-requires-clause-near_before
gap_at-gap-requires-clause-near_before c =
    let span = c.loop-span.span in
    let walked = c.loop-span.invariant in
    let some = walked.some in
    near_answer c.args.zone.now c.args.local c.requires.offsets span.instants (answered span.answer) walked.answers span.instants.last
    (record { from = some; to = omega (arith, ints) })

pub gap_at-gap-requires-clause-near_after : goal.gap_at-gap-requires-clause-near_after
gap_at-gap-requires-clause-near_after c =
    let s = c.span-next in
    near_answer c.args.zone.now c.args.local c.requires.offsets s.result.instants (answered s.result.answer) s.ensures.answers _ s.ensures.requested

pub instant_in-requires-in-loop-span-clause-near : goal.instant_in-requires-in-loop-span-clause-near
instant_in-requires-in-loop-span-clause-near c =
    let s = c.span-next in
    near_answer c.args.zone.now c.args.local c.requires.offsets s.result.instants (answered s.result.answer) s.ensures.answers _ s.ensures.requested

pub with_instant-given-requires-in-loop-span : goal.with_instant-given-requires-in-loop-span
with_instant-given-requires-in-loop-span c =
    let f = to_z-of_z c.ranges.local in
    let low = c.requires.range.low in
    let high = c.requires.range.high in
    let walked = c.loop-span.invariant in
    let e = to_z-of_z walked.fits in
    let counted = walked.counted in
    let test = c.loop-span-test.true in
    let same = count_gap c.loop-span.given c.gap_at-gap.result in
    rw c.with_gap.ensures (omega (arith, ints, f, low, high, e, counted, test, same))

pub loop-span-smaller : goal.loop-span-smaller
loop-span-smaller c =
    let walked = c.loop-span.invariant in
    let e = to_z-of_z walked.fits in
    let f = to_z-of_z c.ranges.local in
    let low = c.requires.range.low in
    let high = c.requires.range.high in
    let test = c.loop-span-test.true in
    let to = c.span-next.ensures.requested.to in
    smaller _ c.loop-span.span.instants.last c.span-next.result.instants.last (omega (arith, ints, e, f, low, high, test)) (omega (arith, ints, e, f, low, high, test, to))

pub loop-span-preserved : goal.loop-span-preserved
loop-span-preserved c =
    let content = c.args.zone.now in
    let local = to_z w64 (of_z w64 c.args.local) in
    let walked = c.loop-span.invariant in
    let e = to_z-of_z walked.fits in
    let f = to_z-of_z c.ranges.local in
    let low = c.requires.range.low in
    let high = c.requires.range.high in
    let test = c.loop-span-test.true in
    let span = c.loop-span.span in
    let s = c.span-next in
    let Walked = λ (given : LocalInstants). IsWalked content local s.result.instants (answered s.result.answer) given in
    subst Walked (sym c.with_instant-given-in-loop-span.ensures)
    (subst (λ (given : LocalInstants). Walked (with_instant given c.instant_in-in-loop-span.result)) (sym c.with_gap.ensures)
    (walk_more content local span.instants s.result.instants (answered span.answer) (answered s.result.answer) c.loop-span.given _ walked
    s.ensures.answers s.ensures.changes s.ensures.requested (omega (arith, ints, e, f, low, high, test)) (search rules)
    c.gap_at-gap.result c.instant_in-in-loop-span.result c.gap_at-gap.ensures c.instant_in-in-loop-span.ensures))

pub returns : goal.returns
returns c =
    let walked = c.loop-span.invariant in
    let e = to_z-of_z walked.fits in
    let f = to_z-of_z c.ranges.local in
    let low = c.requires.range.low in
    let high = c.requires.range.high in
    let test = c.loop-span-test.false in
    let last = c.loop-span.span.instants.last in
    subst (λ (local : ℤ). AnswersLocal c.args.zone.now local c.loop-span.given) f
    (known_all c.args.zone.now (to_z w64 (of_z w64 c.args.local)) c.requires.offsets last last c.loop-span.given
    (omega (arith, ints, e, f, low, high, test)) (omega (arith, ints, e, f, low, high, test)) walked.tells)
