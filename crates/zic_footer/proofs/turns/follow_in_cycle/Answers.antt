use Rattle.std.proofs.Common.{◌≡◌, ℕ, ⊎_elim, sym, subst, refl, arith, pos}
use Rattle.std.proofs.lemmas.Bool.{cases_lt}
use Rattle.zic_footer.specs.declared.turns.TheConstants.{FIRST_YEAR}
use Rattle.zic_footer.specs.code.Turns.{LiesBetween}
use Rattle.zic_footer.proofs.Moments.{from_cycle}
use Rattle.zic_footer.proofs.turns.follow_in_cycle.Goals as goal

pub loop-year-init : goal.loop-year-init
loop-year-init c = λ k from to. absurd (omega arith)

pub loop-year-preserved : goal.loop-year-preserved
loop-year-preserved c = λ k from to. ⊎_elim
    (λ lt. c.loop-year.invariant k from lt)
    (λ ge.
    let here : k ≡ c.loop-year.year = omega arith in
    subst (λ (n : ℕ). LiesBetween c.args.a.now c.args.b.now (pos n) × LiesBetween c.args.b.now c.args.a.now (pos n)) (sym here)
    (c.if-not-lies_between.ensures.0 refl, c.if-not-lies_between-2.ensures.0 refl))
    (cases_lt k c.loop-year.year)

pub returns : goal.returns
returns c = (
  λ e. from_cycle c.args.a.now c.args.b.now FIRST_YEAR (λ k from to. c.loop-year.invariant k from (omega (arith, to, c.loop-year-test.false))),
  λ in_turn. refl,
)
