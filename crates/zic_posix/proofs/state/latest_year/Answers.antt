use Rattle.std.proofs.Common.{◌≡◌, ℕ, ℤ, pos, negsuc, ◌+ℤ◌, refl, to_z, of_z, w64, arith}
use Rattle.std.specs.Int.RustNames.{int_div}
use Rattle.std.proofs.lemmas.Int.{ints}
use Rattle.zic_calendar.specs.Calendar.{day_number, IsDate, IsSupportedYear}
use Rattle.zic_posix.specs.code.State.{IsInCycle, IsLatestYear}
use Rattle.zic_posix.proofs.Lasts.{IsOnDay, date_in_year, second_in_year, year_of_cycle}
use Rattle.zic_posix.proofs.state.latest_year.Goals as goal

-- the day that the code asks for
abbrev day_of_argument : ℤ → ℤ
day_of_argument t = to_z w64 (of_z w64 (to_z w64 (of_z w64 (int_div (to_z w64 (of_z w64 t)) (pos 86_400))) +ℤ pos 10))

-- is that of 10 days later
on_day : (t : ℤ) → IsInCycle t → IsOnDay (t +ℤ pos 864_000) (day_of_argument t)
on_day (pos n) in_cycle = record { from = omega (arith, ints, in_cycle.1); to = omega (arith, ints, in_cycle.1) }
on_day (negsuc n) in_cycle = absurd (omega (arith, ints, in_cycle.0))

-- and so its year is
in_year : (t year : ℤ) (m d : ℕ) → IsInCycle t → IsDate year m d → day_number year m d ≡ day_of_argument t → IsLatestYear t year
in_year t year m d in_cycle is e =
    let bounds = date_in_year year (year +ℤ pos 1) m d refl is in
    let both = second_in_year (t +ℤ pos 864_000) (day_of_argument t) (day_number year 1 1) (day_number (year +ℤ pos 1) 1 1) (on_day t in_cycle) (rw (← e) bounds.0) (rw (← e) bounds.1) in
    record { from = both.0; to = both.1 }

fits_64 : (year : ℤ) → IsSupportedYear year → to_z w64 (of_z w64 year) ≡ year
fits_64 year supported = omega (arith, ints, supported.0, supported.1)

pub returns-clause-year : goal.returns-clause-year
returns-clause-year c =
    let found = c.civil.result in
    let date = c.civil.ensures.date in
    rw (fits_64 found.year c.civil.ensures.year) (in_year c.args.t found.year found.month found.day c.requires date.0 date.1)

pub returns-clause-range : goal.returns-clause-range
returns-clause-range c =
    let found = c.civil.result in
    let date = c.civil.ensures.date in
    rw (fits_64 found.year c.civil.ensures.year)
    (year_of_cycle (c.args.t +ℤ pos 864_000) found.year (omega (arith, ints, c.requires.0)) (omega (arith, ints, c.requires.1)) (in_year c.args.t found.year found.month found.day c.requires date.0 date.1))
