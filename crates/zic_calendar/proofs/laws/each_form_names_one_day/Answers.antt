use Rattle.zic_calendar.proofs.FormLemmas.{form_is, form_only}
use Rattle.zic_calendar.proofs.laws.each_form_names_one_day.Goals as goal

pub returns : goal.returns
returns c = λ y m f h x. (form_only y m f x h, λ e. rw e (form_is y m f h))
