-- Days of the week, as the bits of a number.
use Rattle.std.specs.Prelude.{ℕ, ◌+◌, ◌%◌, ℤ, IsBitSet}
use Rattle.zic_calendar.specs.Weekday.{weekday_of}

-- The bit of a weekday: ISO 8601 numbers weekdays from 1, Monday, to 7, Sunday, and the bits count from 0. The calendar counts from 0, Sunday.
abbrev pub bit_of : ℕ → ℕ
bit_of weekday = (weekday + 6) % 7

-- the weekday of a day since 1970-01-01 is one of them
abbrev pub HasWeekdayOf : ℕ → ℤ → Type 0
HasWeekdayOf bits day = IsBitSet bits (bit_of (weekday_of day))
