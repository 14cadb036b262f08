use Rattle.std.proofs.Common.{refl}
use Rattle.zic_calendar.proofs.DateLemmas.{day_number-kit}
use Rattle.zic_calendar.proofs.WeekdayLemmas.{weekday_of-kit}
use Rattle.zic_calendar.proofs.laws.agrees_with_library.Goals as goal

pub returns : goal.returns
returns c = record {
  leap_years = λ y. refl;
  years = λ y. refl;
  months = λ y m. refl;
  days = day_number-kit;
  weekdays = weekday_of-kit;
}
