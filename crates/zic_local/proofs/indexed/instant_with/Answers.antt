use Rattle.std.proofs.Common.{ℤ, ◌-ℤ◌, ◌≡◌, to_z-of_z, of_z, to_z, FitsSigned, w32, w64, sym, subst, ap, rules, arith}
use Rattle.std.proofs.lemmas.Int.{ints}
use Rattle.zic_tzif.specs.Answer.{answered}
use Rattle.zic_tzif.specs.declared.zone.Answer.{Answer}
use Rattle.zic_local.specs.LocalTime.{IsOffsetAt}
use Rattle.zic_local.specs.code.Walk.{HasOffset}
use Rattle.zic_local.proofs.Trying.{answer_offset}
use Rattle.zic_local.proofs.indexed.instant_with.Goals as goal
use Rattle.zic_local.proofs.indexed.instant_with.Goals.{After-at}

-- what the zone answers at the instant has the UT offset
has_offset : (c : After-at) → IsOffsetAt c.args.zone.now (c.args.local -ℤ c.args.offset) c.args.offset → HasOffset (answered c.at.result) c.args.offset
has_offset c at =
    let t = to_z w64 (of_z w64 c.read_by-t.result) in
    let fits : FitsSigned w64 c.read_by-t.result = search rules in
    let e = to_z-of_z fits in
    let f = to_z-of_z c.ranges.local in
    let g = to_z-of_z c.ranges.offset in
    let read = c.read_by-t.ensures in
    let place : c.args.local -ℤ c.args.offset ≡ t = omega (arith, ints, e, f, g, read) in
    answer_offset c.args.zone.now t c.args.offset (answered c.at.result) c.at.ensures (subst (λ (u : ℤ). IsOffsetAt c.args.zone.now u c.args.offset) place at)

pub returns-in_default : goal.returns-in_default
returns-in_default c = λ at.
    let same : c.args.offset ≡ c.in-Known.state.offset = subst (λ (a : Answer). HasOffset (answered a) c.args.offset) c.in-Known.is (has_offset (goal.at.returns-in_default c).After-at at) in
    c.if-state-offset.false (ap (of_z w32) (sym same))

pub returns-in_default-2 : goal.returns-in_default-2
returns-in_default-2 c = λ at. subst (λ (a : Answer). HasOffset (answered a) c.args.offset) c.in_default.is (has_offset (goal.at.returns-in_default-2 c).After-at at)
