use Rattle.std.proofs.Common.{◌≡◌, ℕ, ◌+◌, ⊎_elim, ap, subst, arith, ℤ, pos, negsuc, ◌+ℤ◌, ◌<ℤ◌, ◌≤ℤ◌}
use Rattle.std.proofs.lemmas.Bool.{cases_lt}
use Rattle.std.proofs.lemmas.Int.{ints}
use Rattle.zic_states.specs.Occurrence.{nominal_second}
use Rattle.zic_footer.proofs.Moments.{between_near}
use Rattle.zic_footer.proofs.turns.lies_between.Goals as goal
use Rattle.zic_footer.proofs.turns.lies_between.Goals.{else-from-second-via-then-from-second+else-second-to, else-from-second-via-else-from-second}

-- a year after the year 0 is a number
as_number : (z : ℤ) → pos 1 ≤ℤ z → (k : ℕ) × (z ≡ pos k)
as_number (pos k) h = (k, λ i. pos k)
as_number (negsuc k) h = absurd (omega (arith, ints))

pub nominal_second-from-requires-clause-fits : goal.nominal_second-from-requires-clause-fits
nominal_second-from-requires-clause-fits c = c.requires.a.fits (pos c.args.year)

pub nominal_second-to-requires-clause-fits : goal.nominal_second-to-requires-clause-fits
nominal_second-to-requires-clause-fits c = c.requires.a.fits (pos (c.args.year + 1))

pub nominal_second-second-requires-clause-fits : goal.nominal_second-second-requires-clause-fits
nominal_second-second-requires-clause-fits c = c.requires.b.fits (pos c.loop-other.other)

pub loop-other-init : goal.loop-other-init
loop-other-init c = λ k from to after before. omega arith

pub loop-other-preserved : goal.loop-other-preserved
loop-other-preserved c = λ k from to after before. ⊎_elim
    (λ lt. c.loop-other.invariant k from lt after before)
    (λ ge.
    let here : k ≡ c.loop-other.other = omega arith in
    let same = ap (λ (n : ℕ). nominal_second (pos n) c.args.b.now) here in
    elim c.else-from-second.branch [
      | else-from-second-via-then-from-second+else-second-to w ↦
          omega (arith, ints, same, w.if-second-to.false, c.nominal_second-second.ensures, c.nominal_second-to.ensures, before)
      | else-from-second-via-else-from-second w ↦
          omega (arith, ints, same, w.if-from-second.false, c.nominal_second-second.ensures, c.nominal_second-from.ensures, after)
    ])
    (cases_lt k c.loop-other.other)

pub returns : goal.returns
returns c = (
  λ e. absurd cc,
  λ between.
      let near = between_near c.args.a.now c.args.b.now (pos c.args.year) c.requires.a c.requires.b between in
      let (k, is) = as_number between.other (omega (arith, ints, near.0, c.requires.year)) in
      let after = subst (λ (y : ℤ). nominal_second (pos c.args.year) c.args.a.now <ℤ nominal_second y c.args.b.now) is between.after in
      let before = subst (λ (y : ℤ). nominal_second y c.args.b.now <ℤ nominal_second (pos c.args.year +ℤ pos 1) c.args.a.now) is between.before in
      absurd (c.loop-other.invariant k (omega (arith, ints, near.0, is)) (omega (arith, ints, near.1, is, c.loop-other-test.false)) after before),
)
