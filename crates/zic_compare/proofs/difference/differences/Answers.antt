use Rattle.std.proofs.Common.{◌≡◌, ℤ, pos, ◌+ℤ◌, ◌<ℤ◌, ◌≤ℤ◌, List, to_z, of_z, to_z-of_z, w64, FitsSigned, sym, subst, ◌∙◌, arith, rules}
use Rattle.std.proofs.lemmas.Int.{ints}
use Rattle.zic_compare.specs.Answers.{pair}
use Rattle.zic_compare.specs.code.Run.{AreBefore, Closes, HasAnswersOf, IsRun, up_to}
use Rattle.zic_compare.specs.declared.difference.Difference.{Difference}
use Rattle.zic_compare.proofs.RunLemmas.{run_first, before_first, run_on, run_next, followed, closed, all_of, smaller}
use Rattle.zic_compare.proofs.difference.differences.Goals as goal

-- the instant after a span's last, which isn't the last of all
next_is : (old last : ℤ) → FitsSigned w64 old → FitsSigned w64 last → to_z w64 (of_z w64 old) <ℤ to_z w64 (of_z w64 last)
    → to_z w64 (of_z w64 (to_z w64 (of_z w64 old) +ℤ pos 1)) ≡ old +ℤ pos 1
next_is old last fits end before =
    let e = to_z-of_z fits in
    let l = to_z-of_z end in
    let earlier : old <ℤ last = omega (arith, ints, e, l, before) in
    let more : FitsSigned w64 (old +ℤ pos 1) = search rules in
    rw e (to_z-of_z more)

pub loop-run-init : goal.loop-run-init
loop-run-init c =
    let p = pair c.args.old.now c.args.new.now c.args.compared in
    let run = c.span-run.result in
    let first : run.instants.first ≡ c.args.bounds.first = search rules in
    let some : run.instants.first ≤ℤ run.instants.last = search rules in
    let order : c.args.bounds.first ≤ℤ c.args.bounds.last = search rules in (
      run_first p c.args.bounds run first some order c.span-run.ensures.throughout,
      subst (λ (ds : List Difference). AreBefore p c.args.bounds run.instants.first ds) (sym c.new-found.ensures.items) (before_first p c.args.bounds run first),
      search rules,
    )

pub loop-run-smaller-then-have_same_answers : goal.loop-run-smaller-then-have_same_answers
loop-run-smaller-then-have_same_answers c =
    let run = c.loop-run.run in
    let next = c.span-next.result in
    let fits = c.loop-run.invariant.2 in
    let end : FitsSigned w64 c.args.bounds.last = search rules in
    let e = to_z-of_z fits in
    let l = to_z-of_z end in
    let test = c.loop-run-test.true in
    let at : next.instants.first ≡ run.instants.last +ℤ pos 1 = c.span-next.ensures.first ∙ next_is run.instants.last c.args.bounds.last fits end (omega (arith, ints, test)) in
    let long : next.instants.first ≤ℤ next.instants.last = search rules in
    let last : c.up_to-run.result.instants.last ≡ next.instants.last = search rules in
    smaller c.args.bounds.last run.instants.last c.up_to-run.result.instants.last (omega (arith, ints, test, l, e)) (omega (arith, ints, at, long, last))

pub loop-run-smaller : goal.loop-run-smaller
loop-run-smaller c =
    let run = c.loop-run.run in
    let next = c.span-next.result in
    let fits = c.loop-run.invariant.2 in
    let end : FitsSigned w64 c.args.bounds.last = search rules in
    let e = to_z-of_z fits in
    let l = to_z-of_z end in
    let test = c.loop-run-test.true in
    let at : next.instants.first ≡ run.instants.last +ℤ pos 1 = c.span-next.ensures.first ∙ next_is run.instants.last c.args.bounds.last fits end (omega (arith, ints, test)) in
    let long : next.instants.first ≤ℤ next.instants.last = search rules in
    smaller c.args.bounds.last run.instants.last next.instants.last (omega (arith, ints, test, l, e)) (omega (arith, ints, at, long))

pub loop-run-preserved-then-have_same_answers : goal.loop-run-preserved-then-have_same_answers
loop-run-preserved-then-have_same_answers c =
    let p = pair c.args.old.now c.args.new.now c.args.compared in
    let run = c.loop-run.run in
    let next = c.span-next.result in
    let fits = c.loop-run.invariant.2 in
    let end : FitsSigned w64 c.args.bounds.last = search rules in
    let test = c.loop-run-test.true in
    let at : next.instants.first ≡ run.instants.last +ℤ pos 1 = c.span-next.ensures.first ∙ next_is run.instants.last c.args.bounds.last fits end (omega (arith, ints, test)) in
    let long : next.instants.first ≤ℤ next.instants.last = search rules in
    let same : HasAnswersOf run next = search rules in
    let next_fits : FitsSigned w64 next.instants.last = search rules in
    let is : c.up_to-run.result ≡ up_to run next.instants.last = subst (λ (z : ℤ). c.up_to-run.result ≡ up_to run z) (to_z-of_z next_fits) c.up_to-run.ensures in
    subst (λ (d : Difference). IsRun p c.args.bounds d × AreBefore p c.args.bounds d.instants.first c.loop-run.found.items × FitsSigned w64 d.instants.last) (sym is)
    (run_on p c.args.bounds run next c.loop-run.invariant.0 at long c.span-next.ensures.throughout same, c.loop-run.invariant.1, next_fits)

pub loop-run-preserved : goal.loop-run-preserved
loop-run-preserved c =
    let p = pair c.args.old.now c.args.new.now c.args.compared in
    let run = c.loop-run.run in
    let next = c.span-next.result in
    let inv = c.loop-run.invariant in
    let fits = inv.2 in
    let end : FitsSigned w64 c.args.bounds.last = search rules in
    let e = to_z-of_z fits in
    let l = to_z-of_z end in
    let test = c.loop-run-test.true in
    let before : run.instants.last <ℤ c.args.bounds.last = omega (arith, ints, test, l, e) in
    let at : next.instants.first ≡ run.instants.last +ℤ pos 1 = c.span-next.ensures.first ∙ next_is run.instants.last c.args.bounds.last fits end (omega (arith, ints, test)) in
    let long : next.instants.first ≤ℤ next.instants.last = search rules in
    let other : HasAnswersOf run next → ⊥ = search rules in
    let throughout = c.span-next.ensures.throughout in (
      run_next p c.args.bounds run next inv.0 at before long throughout other,
      closed p c.args.bounds run c.loop-run.found.items c.close.new.found.items inv.0.some inv.1 inv.0.throughout
          (λ differ. followed p c.args.bounds run next inv.0 at before long throughout other differ) c.in_ok-close.ensures next.instants.first at,
      search rules,
    )

pub returns : goal.returns
returns c =
    let p = pair c.args.old.now c.args.new.now c.args.compared in
    let run = c.loop-run.run in
    let inv = c.loop-run.invariant in
    let end : FitsSigned w64 c.args.bounds.last = search rules in
    let e = to_z-of_z inv.2 in
    let l = to_z-of_z end in
    let test = c.loop-run-test.false in
    let reaches : c.args.bounds.last ≤ℤ run.instants.last = omega (arith, ints, test, l, e) in
    let last : c.up_to.result ≡ up_to run c.args.bounds.last = subst (λ (z : ℤ). c.up_to.result ≡ up_to run z) l c.up_to.ensures in
    all_of p c.args.bounds run c.loop-run.found.items c.close-2.new.found.items inv.0 reaches inv.1
    (subst (λ (d : Difference). Closes d c.loop-run.found.items c.close-2.new.found.items) last c.in_ok-close-2.ensures)
