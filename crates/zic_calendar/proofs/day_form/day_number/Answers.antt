use Rattle.std.proofs.Common.{◌≡◌, arith}
use Rattle.jiff_core.proofs.SignedLemmas.{signed_casts}
use Rattle.zic_calendar.proofs.DateLemmas.{day_number-kit}
use Rattle.zic_calendar.proofs.day_form.day_number.Goals as goal

pub returns-clause-value : goal.returns-clause-value
returns-clause-value c =
    let made = c.constrain-date.ensures in
    let in_month = c.requires.day_in in
    let year : c.constrain-date.result.year ≡ c.args.year = omega (arith, signed_casts) in
    let least = rw (← made.year, year) at made.day in
    let day : c.constrain-date.result.day ≡ c.args.day = omega arith in
    let number = rw (year, made.month, day) at c.to_unix_epoch_day.ensures.value in
    let kit = day_number-kit c.args.year c.args.month c.args.day (omega (arith, signed_casts)) in_month.0 in
    omega (arith, signed_casts, number, kit)
