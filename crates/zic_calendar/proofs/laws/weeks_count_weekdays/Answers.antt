use Rattle.zic_calendar.proofs.FormLemmas.{first-week}
use Rattle.zic_calendar.proofs.laws.weeks_count_weekdays.Goals as goal

pub returns : goal.returns
returns c = first-week
