use Rattle.std.proofs.Common.{arith}
use Rattle.jiff_core.proofs.SignedLemmas.{signed_arith, one_part}
use Rattle.zic_calendar.specs.Weekday.{weekday_of}
use Rattle.zic_calendar.proofs.day_form.weekday.Goals as goal

pub returns-clause-value : goal.returns-clause-value
unfolding weekday_of
returns-clause-value c = omega (arith, signed_arith, one_part c.args.day, c.rem_euclid.ensures.value)
