use Rattle.std.proofs.Common.{ℤ, ◌≤ℤ◌, MatchOption, FitsSigned, to_z, of_z, to_z-of_z, w64, subst, ◌∙◌, arith, rules}
use Rattle.std.proofs.lemmas.Int.{ints, clamps}
use Rattle.zic_dump.specs.Changes.{StaysSame}
use Rattle.zic_dump.specs.code.Walk.{IsFirstWithin}
use Rattle.zic_dump.proofs.Forever.{past_later, none_comes, later_or_end, next_found}
use Rattle.zic_dump.proofs.walk.next_change.Goals as goal
use Rattle.zic_dump.proofs.walk.next_change.Goals.{in-Some, in-None}

pub returns : goal.returns
returns c =
    let content = c.args.zone.now in
    let t = c.args.t in
    let facts = c.first_change.result in
    let end = c.saturating_add.result in
    let t_is = to_z-of_z c.ranges.t in
    let end_fits : FitsSigned w64 end = search rules in
    let end_is = to_z-of_z end_fits in
    let by_t = subst (λ (z : ℤ). MatchOption facts (StaysSame content z (to_z w64 (of_z w64 end))) (IsFirstWithin content z (to_z w64 (of_z w64 end)))) t_is c.first_change.ensures in
    let found = subst (λ (z : ℤ). MatchOption facts (StaysSame content t z) (IsFirstWithin content t z)) end_is by_t in
    let from = to_z w64 c.match-last_transition.from-bits in
    let fits : FitsSigned w64 from = search rules in
    let ends = later_or_end from end fits c.saturating_add.ensures in
    elim c.match-last_transition.branch [
      | in-Some w ↦
          let last = w.in-Some.last in
          let last_fits : FitsSigned w64 last = search rules in
          let last_is = to_z-of_z last_fits in
          let max = w.max-from.ensures.value in
          let max_fits : FitsSigned w64 w.max-from.result = search rules in
          let from_is = w.from-is ∙ to_z-of_z max_fits ∙ max in
          let later : last ≤ℤ from = omega (arith, ints, clamps, from_is, last_is) in
          let order : t ≤ℤ from = omega (arith, ints, clamps, from_is, t_is) in
          next_found content from (past_later content last w.in-Some.ensures.last from later) t end facts order ends found
      | in-None w ↦
          let order : t ≤ℤ from = omega (arith, ints, w.from-is, t_is) in
          next_found content from (none_comes content from w.in-None.ensures) t end facts order ends found
    ]
