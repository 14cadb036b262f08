use Rattle.std.proofs.Common.{◌≡◌, ℤ, pos, ◌+ℤ◌, ◌-ℤ◌, ◌<ℤ◌, ◌≤ℤ◌, FitsSigned, to_z, of_z, to_z-of_z, w64, ◌∙◌, ap, arith, rules}
use Rattle.std.specs.Int.{saturate_signed}
use Rattle.std.proofs.lemmas.Int.{ints}
use Rattle.zic_posix.specs.declared.span.TheConstants.{MIN_INSTANT}
use Rattle.zic_dump.proofs.Forever.{IsSecondBefore, second_before_or_start, years_before, past_from, previous_found, previous_change, previous_to_start}
use Rattle.zic_dump.proofs.walk.previous_change.Goals as goal

-- the second before, by the bits of an instant
last_of : (t last : ℤ) → FitsSigned w64 t → FitsSigned w64 last → last ≡ saturate_signed w64 (to_z w64 (of_z w64 t) -ℤ pos 1) → IsSecondBefore t (to_z w64 (of_z w64 last))
last_of t last t_fits fits is =
    rw (to_z-of_z fits) (second_before_or_start t last t_fits (is ∙ ap (λ (z : ℤ). saturate_signed w64 (z -ℤ pos 1)) (to_z-of_z t_fits)))

pub returns-then-low-from : goal.returns-then-low-from
returns-then-low-from c =
    let last_fits : FitsSigned w64 c.saturating_sub-last.result = search rules in
    let before = last_of c.args.t c.saturating_sub-last.result c.ranges.t last_fits c.saturating_sub-last.ensures in
    previous_to_start c.args.zone.now c.args.t (to_z w64 (of_z w64 c.saturating_sub-last.result)) before c.last_change.result c.last_change.ensures

pub returns-in-Some : goal.returns-in-Some
returns-in-Some c =
    let last_fits : FitsSigned w64 c.saturating_sub-last.result = search rules in
    let low_fits : FitsSigned w64 c.saturating_sub-low.result = search rules in
    let fits : FitsSigned w64 c.in-Some.change = search rules in
    let before = last_of c.args.t c.saturating_sub-last.result c.ranges.t last_fits c.saturating_sub-last.ensures in
    let low_is = to_z-of_z low_fits in
    rw (to_z-of_z fits)
    (previous_change c.args.zone.now c.args.t (to_z w64 (of_z w64 c.saturating_sub-last.result)) before (to_z w64 (of_z w64 c.saturating_sub-low.result)) c.in-Some.change
    (omega (arith, ints, low_is, low_fits)) c.in-Some.ensures)

pub returns-in-None : goal.returns-in-None
returns-in-None c =
    let content = c.args.zone.now in
    let t = c.args.t in
    let last_fits : FitsSigned w64 c.saturating_sub-last.result = search rules in
    let low_fits : FitsSigned w64 c.saturating_sub-low.result = search rules in
    let from_fits : FitsSigned w64 c.unwrap_or-from.result = search rules in
    let last = to_z w64 (of_z w64 c.saturating_sub-last.result) in
    let low = to_z w64 (of_z w64 c.saturating_sub-low.result) in
    let from = to_z w64 (of_z w64 c.unwrap_or-from.result) in
    let last_is = to_z-of_z last_fits in
    let low_is = to_z-of_z low_fits in
    let from_is = to_z-of_z from_fits in
    let fits : FitsSigned w64 last = rw last_is last_fits in
    let some : MIN_INSTANT ≤ℤ from = omega (arith, ints, from_is, from_fits) in
    let test = c.if-low-from.false in
    let later : from <ℤ low = omega (arith, ints, test) in
    let is : last ≡ low +ℤ pos 12_622_780_800 = years_before from low last fits (low_is ∙ c.saturating_sub-low.ensures) some later in
    let before = last_of t c.saturating_sub-last.result c.ranges.t last_fits c.saturating_sub-last.ensures in
    let below : from <ℤ t = let back = before.back last (omega (arith, ints, is, later, some)) (omega (arith, ints)) in omega (arith, ints, back, is, later) in
    let past = past_from content c.last_transition.result from (from_is ∙ c.unwrap_or-from.ensures) c.last_transition.ensures in
    previous_found content from past t low last (omega (arith, ints, later)) is below c.in-None.ensures c.last_change-in-None.result c.last_change-in-None.ensures
