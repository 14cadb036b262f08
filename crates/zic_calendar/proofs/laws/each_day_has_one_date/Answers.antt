use Rattle.zic_calendar.proofs.DateLemmas.{date_exists, day_number-injective}
use Rattle.zic_calendar.proofs.laws.each_day_has_one_date.Goals as goal

pub returns : goal.returns
returns c = record { some = date_exists; only = day_number-injective }
