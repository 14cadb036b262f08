use Rattle.std.proofs.Common.{◌≡◌, ℤ, pos, ◌+ℤ◌, FitsSigned, to_z, of_z, to_z-of_z, w32, w64, unsigned_abs, subst, ◌∙◌, ap, arith}
use Rattle.std.specs.Int.{int_div_euclid, int_rem_euclid}
use Rattle.std.proofs.lemmas.Int.{ints}
use Rattle.zic_calendar.specs.Civil.{IsOnDay}
use Rattle.zic_dump.proofs.Euclid.{IsDivided, by_day, shown_day}
use Rattle.zic_dump.proofs.civil.civil_at.Goals as goal

-- the second of the day and an offset, and the days that they make
pub record AreShown (t offset : ℤ) (first rest from more second : ℤ) : Type 0 where
  pub day : to_z w64 (of_z w64 (to_z w64 (of_z w64 first) +ℤ to_z w64 (of_z w64 more))) ≡ int_div_euclid (t +ℤ offset) (pos 86_400)
  pub second_is : to_z w64 (of_z w64 second) ≡ int_rem_euclid (t +ℤ offset) (pos 86_400)

are_shown : (t offset first rest from more second : ℤ) → FitsSigned w64 t → FitsSigned w32 offset → first ≡ int_div_euclid (to_z w64 (of_z w64 t)) (pos 86_400)
    → rest ≡ int_rem_euclid (to_z w64 (of_z w64 t)) (pos 86_400) → from ≡ to_z w32 (of_z w32 offset)
    → more ≡ int_div_euclid (to_z w64 (of_z w64 (to_z w64 (of_z w64 rest) +ℤ to_z w64 (of_z w64 from)))) (pos 86_400)
    → second ≡ int_rem_euclid (to_z w64 (of_z w64 (to_z w64 (of_z w64 rest) +ℤ to_z w64 (of_z w64 from)))) (pos 86_400)
    → AreShown t offset first rest from more second
are_shown t offset first rest from more second t_fits o_fits first_is rest_is from_is more_is second_is =
    let t_is = to_z-of_z t_fits in
    let o_is = to_z-of_z o_fits in
    let whole = subst (λ (z : ℤ). IsDivided 86_400 z first rest) t_is (rw (first_is, rest_is) (by_day (to_z w64 (of_z w64 t)))) in
    let low = whole.low in
    let high = whole.high in
    let sum_is : to_z w64 (of_z w64 (to_z w64 (of_z w64 rest) +ℤ to_z w64 (of_z w64 from))) ≡ rest +ℤ offset = omega (arith, ints, low, high, from_is, o_is, o_fits) in
    let sum = subst (λ (z : ℤ). IsDivided 86_400 z more second) sum_is (rw (more_is, second_is) (by_day (to_z w64 (of_z w64 (to_z w64 (of_z w64 rest) +ℤ to_z w64 (of_z w64 from)))))) in
    let shown = shown_day t offset first rest more second whole sum in
    let one = shown.0 in
    let other = shown.1 in
    let whole_is = whole.is in
    let parts = sum.is in
    record {
      day = omega (arith, ints, one, whole_is, parts, low, high, sum.low, sum.high, t_fits, o_fits);
      second_is = omega (arith, ints, other, sum.low, sum.high);
    }

pub returns-clause-date : goal.returns-clause-date
returns-clause-date c =
    let s = are_shown c.args.t c.args.offset c.div_euclid.result c.rem_euclid.result c.from.result c.div_euclid-2.result c.rem_euclid-2.result c.ranges.t c.ranges.offset
    c.div_euclid.ensures c.rem_euclid.ensures.value c.from.ensures c.div_euclid-2.ensures c.rem_euclid-2.ensures.value in
    subst (λ (z : ℤ). IsOnDay z c.civil_on.result) s.day c.civil_on.ensures.date

pub returns-clause-time : goal.returns-clause-time
returns-clause-time c =
    let s = are_shown c.args.t c.args.offset c.div_euclid.result c.rem_euclid.result c.from.result c.div_euclid-2.result c.rem_euclid-2.result c.ranges.t c.ranges.offset
    c.div_euclid.ensures c.rem_euclid.ensures.value c.from.ensures c.div_euclid-2.ensures c.rem_euclid-2.ensures.value in
    let time = c.civil_on.ensures.time in
    (time.0, time.1, time.2, time.3 ∙ ap unsigned_abs s.second_is)
