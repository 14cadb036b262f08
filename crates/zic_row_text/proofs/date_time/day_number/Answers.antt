use Rattle.std.proofs.Common.{◌≡◌, arith}
use Rattle.jiff_core.proofs.SignedLemmas.{signed_casts}
use Rattle.zic_calendar.proofs.DateLemmas.{day_number-kit, supported_day}
use Rattle.zic_row_text.proofs.date_time.day_number.Goals as goal

pub returns-clause-value : goal.returns-clause-value
returns-clause-value c =
    let civil = c.args.civil.now in
    let made = c.constrain-date.ensures in
    let in_month = c.requires.day in
    let year : c.constrain-date.result.year ≡ civil.year = omega (arith, signed_casts, c.requires.year) in
    let least = rw (← made.year, year) at made.day in
    let day : c.constrain-date.result.day ≡ civil.day = omega (arith, least, in_month) in
    let number = rw (year, made.month, day) at c.to_unix_epoch_day.ensures.value in
    let kit = day_number-kit civil.year civil.month civil.day (omega (arith, signed_casts, c.requires.year)) in_month.0 in
    omega (arith, signed_casts, number, kit)

pub returns-clause-range : goal.returns-clause-range
returns-clause-range c =
    let civil = c.args.civil.now in
    rw (returns-clause-value c) (supported_day civil.year civil.month civil.day (c.requires.month, c.requires.day) c.requires.year)
