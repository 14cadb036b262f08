use Rattle.zic_calendar.proofs.WeekdayLemmas.{weekday_of-week}
use Rattle.zic_calendar.proofs.laws.weekdays_repeat.Goals as goal

pub returns : goal.returns
returns c = weekday_of-week
