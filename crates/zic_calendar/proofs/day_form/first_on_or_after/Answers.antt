use Rattle.std.proofs.Common.{arith, FitsSigned, w64, to_z-of_z}
use Rattle.jiff_core.proofs.SignedLemmas.{signed_casts}
use Rattle.zic_calendar.specs.Weekday.{first_on_or_after}
use Rattle.zic_calendar.proofs.day_form.first_on_or_after.Goals as goal

pub returns : goal.returns
unfolding first_on_or_after
returns c =
    let fits : FitsSigned w64 c.args.day = c.ranges.day in
    let today = simp to_z-of_z at c.weekday.ensures.value in
    omega (arith, signed_casts, today)
