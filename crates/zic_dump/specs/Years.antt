-- The years whose changes are listed.
use Rattle.std.specs.Prelude.{ℕ, ◌≤◌, ℤ, pos, ◌*ℤ◌}
use Rattle.zic_calendar.specs.Calendar.{day_number}
use Rattle.zic_dump.specs.declared.years.TheConstants.{FIRST_YEAR, LAST_YEAR}

-- from the start of one year to the start of another
pub record Between : Type 0 where
  pub from : ℕ
  pub to : ℕ

abbrev pub between : ℕ → ℕ → Between
between from to = record { from = from; to = to }

-- years that may be given, the first not after the second
pub record IsYears (years : Between) : Type 0 where
  pub low : FIRST_YEAR ≤ years.from
  pub order : years.from ≤ years.to
  pub high : years.to ≤ LAST_YEAR

-- the instant at which a year starts in UT
abbrev pub year_instant : ℕ → ℤ
year_instant year = day_number (pos year) 1 1 *ℤ pos 86_400
