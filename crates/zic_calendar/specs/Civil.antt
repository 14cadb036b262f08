-- Civil time: the date and the time of day.
use Rattle.std.specs.Prelude.{◌≡◌, ℕ, ◌+◌, ◌*◌, ◌<◌, ℤ}
use Rattle.zic_calendar.specs.declared.civil_time.Civil.{Civil}
use Rattle.zic_calendar.specs.Calendar.{IsDate, day_number}

-- the civil time has this day number, on a date of the calendar (Gregorian calendar)
abbrev pub IsOnDay : ℤ → Civil → Type 0
IsOnDay day c = IsDate c.year c.month c.day × (day_number c.year c.month c.day ≡ day)

-- the civil time is this second of the day: 24 hours of 60 minutes of 60 seconds (clock)
abbrev pub IsAtSecond : ℕ → Civil → Type 0
IsAtSecond second c =
    (c.hour < 24) × (c.minute < 60) × (c.second < 60)
    × (c.hour * 3600 + c.minute * 60 + c.second ≡ second)
