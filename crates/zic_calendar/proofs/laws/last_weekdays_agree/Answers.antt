use Rattle.std.proofs.Common.{refl}
use Rattle.zic_calendar.proofs.FormLemmas.{form_day-last_week, form_day-before, form_day-before_last}
use Rattle.zic_calendar.proofs.laws.last_weekdays_agree.Goals as goal

pub returns : goal.returns
returns c = record {
  last_week = form_day-last_week;
  before = form_day-before;
  before_last = form_day-before_last;
  february = λ y w. form_day-before_last y 2 w 29 refl;
}
