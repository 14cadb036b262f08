use Rattle.std.proofs.Common.{◌≡◌, ℤ, pos, ◌+ℤ◌, ◌-ℤ◌, ◌*ℤ◌, ◌<◌, unsigned_abs, ap, ◌∙◌, to_z, of_z, to_z-of_z, w32, w64, FitsSigned, arith}
use Rattle.std.proofs.lemmas.Int.{ints}
use Rattle.zic_calendar.specs.DayForm.{IsNearSupportedDay}
use Rattle.zic_posix.specs.Meaning.{day_in}
use Rattle.zic_posix.proofs.state.instant_in.Goals as goal

-- the seconds fit
fits_64 : (day time offset : ℤ) → IsNearSupportedDay day → unsigned_abs time < 604_800 → FitsSigned w32 offset
    → to_z w64 (of_z w64 (to_z w64 (of_z w64 (to_z w64 (of_z w64 (pos 86_400 *ℤ to_z w64 (of_z w64 day))) +ℤ to_z w64 (of_z w64 time))) -ℤ to_z w64 (of_z w64 offset)))
    ≡ ((pos 86_400 *ℤ day) +ℤ time) -ℤ offset
fits_64 day time offset near small fits = omega (arith, ints)

pub returns : goal.returns
returns c =
    let edge = c.args.edge.now in
    let time : c.from.result ≡ edge.time = omega (arith, ints, c.from.ensures, c.requires.edge.time) in
    let offset : c.from-2.result ≡ c.args.offset = omega (arith, ints, c.from-2.ensures, c.ranges.offset) in
    let day : c.day_in.result ≡ day_in c.args.year edge.day = c.day_in.ensures.value ∙ ap (λ (y : ℤ). day_in y edge.day) (to_z-of_z c.ranges.year) in
    rw (time, offset) (fits_64 c.day_in.result edge.time c.args.offset c.day_in.ensures.range c.requires.edge.time c.ranges.offset ∙ ap (λ (d : ℤ). ((pos 86_400 *ℤ d) +ℤ edge.time) -ℤ c.args.offset) day)
