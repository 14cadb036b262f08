use Rattle.zic_calendar.proofs.WeekdayLemmas.{first_is, first_only, last_is, last_only}
use Rattle.zic_calendar.proofs.laws.each_weekday_is_found_once.Goals as goal

pub returns : goal.returns
returns c = record {
  first = λ w day h x. (first_only w day x h, λ e. rw e (first_is w day h));
  last = λ w day h x. (last_only w day x h, λ e. rw e (last_is w day h));
}
