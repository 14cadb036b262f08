-- Civil times of the years 1 to 9999.
use Rattle.std.specs.Prelude.{◌≤◌}
use Rattle.std.specs.Int.{IsInRange}
use Rattle.zic_calendar.specs.declared.civil_time.Civil.{Civil}
use Rattle.zic_calendar.specs.Calendar.{IsSupportedYear, days_in_month}

-- A date of these years, and a time of day.
pub record IsCivil (c : Civil) : Type 0 where
  pub year : IsSupportedYear c.year
  pub month : IsInRange 1 12 c.month
  pub day : IsInRange 1 (days_in_month c.year c.month) c.day
  pub hour : c.hour ≤ 23
  pub minute : c.minute ≤ 59
  pub second : c.second ≤ 59
