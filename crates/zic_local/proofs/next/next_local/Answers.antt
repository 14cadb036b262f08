use Rattle.std.proofs.Common.{◌≡◌, ℤ, pos, ◌+ℤ◌, MatchOption, FitsSigned, to_z, of_z, to_z-of_z, w64, false, true, ◌∙◌, refl, subst, arith, rules}
use Rattle.std.specs.Option.{unwrap_or}
use Rattle.std.proofs.lemmas.Int.{ints}
use Rattle.zic_local.proofs.Walking.{smaller}
use Rattle.zic_local.specs.Due.{IsNeverDue, IsNext}
use Rattle.zic_local.proofs.Searching.{found_first, found_more, search_ends}
use Rattle.zic_local.proofs.next.next_local.Goals as goal

pub loop-found-init : goal.loop-found-init
loop-found-init c =
    let first = c.first_day-day.result in
    let fits : FitsSigned w64 first = search rules in
    rw (to_z-of_z fits) (record {
      tells = found_first c.args.zone.now c.args.schedule.now (to_z w64 (of_z w64 c.args.after)) (to_z w64 (of_z w64 c.args.until)) c.requires first
          c.first_day-day.ensures.first;
      walk = c.first_day-day.ensures.walk;
    })

pub loop-found-smaller : goal.loop-found-smaller
loop-found-smaller c =
    let day = to_z w64 c.loop-found.day-bits in
    let low = c.loop-found.invariant.walk.low in
    let high = c.loop-found.invariant.walk.high in
    smaller (pos 200_000_000_000_000) day (to_z w64 (of_z w64 (day +ℤ pos 1))) (omega (arith, ints, high)) (omega (arith, ints, low, high))

pub loop-found-preserved : goal.loop-found-preserved
loop-found-preserved c =
    let day = to_z w64 c.loop-found.day-bits in
    let searched = c.loop-found.invariant in
    let low = searched.walk.low in
    let high = searched.walk.high in
    let inside = (c.loop-found-test.ensures.range refl).high in
    let next : to_z w64 (of_z w64 (day +ℤ pos 1)) ≡ day +ℤ pos 1 = omega (arith, ints, low, high) in
    rw next (record {
      tells = found_more c.args.zone.now c.args.schedule.now (to_z w64 (of_z w64 c.args.after)) (to_z w64 (of_z w64 c.args.until)) day
          c.loop-found.found c.due_on.result c.earlier-found.result searched.tells c.due_on.ensures c.earlier-found.ensures;
      walk = record { low = omega (arith, ints, low); high = omega (arith, ints, inside) };
    })

not_true : false ≡ true → ⊥
not_true same = cc

pub returns : goal.returns
returns c =
    let content = c.args.zone.now in
    let schedule = c.args.schedule.now in
    let found = c.loop-found.found in
    let end = c.search_end-end.result in
    let end_fits : FitsSigned w64 end = search rules in
    let bound_fits : FitsSigned w64 c.unwrap_or.result = search rules in
    let bound_is : c.unwrap_or.result ≡ unwrap_or found end = simp (to_z-of_z, end_fits) at c.unwrap_or.ensures in
    let bound = to_z-of_z bound_fits ∙ bound_is in
    let answer = search_ends content schedule (to_z w64 (of_z w64 c.args.after)) (to_z w64 (of_z w64 c.args.until)) c.requires
    (to_z w64 c.loop-found.day-bits) end c.search_end-end.ensures found c.loop-found.invariant.tells
    (λ both. let near = both.1 in not_true (c.loop-found-test.ensures.last.1 (both.0, omega (arith, ints, bound, near)))) in
    let by_after = subst
    (λ (z : ℤ). MatchOption found (IsNeverDue content schedule z (to_z w64 (of_z w64 c.args.until))) (IsNext content schedule z (to_z w64 (of_z w64 c.args.until))))
    (to_z-of_z c.ranges.after) answer in
    subst (λ (z : ℤ). MatchOption found (IsNeverDue content schedule c.args.after z) (IsNext content schedule c.args.after z)) (to_z-of_z c.ranges.until) by_after
