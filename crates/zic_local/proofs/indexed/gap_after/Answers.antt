use Rattle.std.proofs.Common.{ℤ, to_z, of_z, to_z-of_z, w64, subst, sym, arith, rules}
use Rattle.std.specs.Option.{MatchOption}
use Rattle.std.proofs.lemmas.Int.{ints}
use Rattle.zic_tzif.specs.Answer.{answered}
use Rattle.zic_local.specs.LocalTime.{IsGapOf, PassesOver}
use Rattle.zic_local.specs.declared.local_time.Gap.{Gap}
use Rattle.zic_local.proofs.Quiet.{quiet_first, quiet_found, quiet_on, quiet_all}
use Rattle.zic_local.proofs.Steps.{near_answer}
use Rattle.zic_local.proofs.Walking.{smaller}
use Rattle.zic_local.proofs.indexed.gap_after.Goals as goal

pub loop-span-init : goal.loop-span-init
loop-span-init c =
    let content = c.args.zone.now in
    let s = c.span-span in
    let f = to_z-of_z c.ranges.local in
    let g = to_z-of_z c.ranges.start in
    quiet_first content (to_z w64 (of_z w64 c.args.local)) s.result.instants (answered s.result.answer) _ s.ensures.answers s.ensures.requested (search rules)
    (λ gap over within. c.requires.none gap (subst (λ (local : ℤ). PassesOver content local gap) f over) (omega (arith, ints, g, within)))

pub gap_at-gap-requires-clause-near_before : goal.gap_at-gap-requires-clause-near_before
gap_at-gap-requires-clause-near_before c =
    let span = c.loop-span.span in
    let quiet = c.loop-span.invariant in
    let some = quiet.some in
    near_answer c.args.zone.now c.args.local c.requires.offsets span.instants (answered span.answer) quiet.answers span.instants.last
    (record { from = some; to = omega (arith, ints) })

pub gap_at-gap-requires-clause-near_after : goal.gap_at-gap-requires-clause-near_after
gap_at-gap-requires-clause-near_after c =
    let s = c.span-next in
    near_answer c.args.zone.now c.args.local c.requires.offsets s.result.instants (answered s.result.answer) s.ensures.answers _ s.ensures.requested

pub returns-then-is_some : goal.returns-then-is_some
returns-then-is_some c =
    let content = c.args.zone.now in
    let span = c.loop-span.span in
    let s = c.span-next in
    let quiet = c.loop-span.invariant in
    let e = to_z-of_z quiet.fits in
    let f = to_z-of_z c.ranges.local in
    let low = c.requires.range.low in
    let high = c.requires.range.high in
    let test = c.loop-span-test.true in
    subst (λ (local : ℤ). MatchOption c.gap_at-gap.result ((gap : Gap) → PassesOver content local gap → ⊥) (IsGapOf content local)) f
    (quiet_found content (to_z w64 (of_z w64 c.args.local)) span.instants s.result.instants (answered span.answer) (answered s.result.answer) _ quiet s.ensures.answers
    s.ensures.requested (omega (arith, ints, e, f, low, high, test)) c.gap_at-gap.result c.gap_at-gap.ensures (sym c.if-is_some.ensures))

pub loop-span-smaller : goal.loop-span-smaller
loop-span-smaller c =
    let quiet = c.loop-span.invariant in
    let e = to_z-of_z quiet.fits in
    let f = to_z-of_z c.ranges.local in
    let low = c.requires.range.low in
    let high = c.requires.range.high in
    let test = c.loop-span-test.true in
    let to = c.span-next.ensures.requested.to in
    smaller _ c.loop-span.span.instants.last c.span-next.result.instants.last (omega (arith, ints, e, f, low, high, test)) (omega (arith, ints, e, f, low, high, test, to))

pub loop-span-preserved : goal.loop-span-preserved
loop-span-preserved c =
    let content = c.args.zone.now in
    let span = c.loop-span.span in
    let s = c.span-next in
    let quiet = c.loop-span.invariant in
    let e = to_z-of_z quiet.fits in
    let f = to_z-of_z c.ranges.local in
    let low = c.requires.range.low in
    let high = c.requires.range.high in
    let test = c.loop-span-test.true in
    quiet_on content (to_z w64 (of_z w64 c.args.local)) span.instants s.result.instants (answered span.answer) (answered s.result.answer) _ quiet s.ensures.answers
    s.ensures.requested (omega (arith, ints, e, f, low, high, test)) (search rules) c.gap_at-gap.result c.gap_at-gap.ensures (sym c.if-is_some.ensures)

pub returns : goal.returns
returns c =
    let quiet = c.loop-span.invariant in
    let e = to_z-of_z quiet.fits in
    let f = to_z-of_z c.ranges.local in
    let low = c.requires.range.low in
    let high = c.requires.range.high in
    let test = c.loop-span-test.false in
    let span = c.loop-span.span in
    λ gap over. quiet_all c.args.zone.now (to_z w64 (of_z w64 c.args.local)) c.requires.offsets span.instants (answered span.answer) quiet
    (omega (arith, ints, e, f, low, high, test)) gap (subst (λ (local : ℤ). PassesOver c.args.zone.now local gap) (sym f) over)
