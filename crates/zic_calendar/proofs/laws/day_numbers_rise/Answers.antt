use Rattle.zic_calendar.proofs.DateLemmas.{day_number-rises}
use Rattle.zic_calendar.proofs.laws.day_numbers_rise.Goals as goal

pub returns : goal.returns
returns c = day_number-rises
