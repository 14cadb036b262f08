use Rattle.zic_calendar.proofs.FormLemmas.{form_bounds}
use Rattle.zic_calendar.proofs.laws.forms_stay_near_month.Goals as goal

pub returns : goal.returns
returns c = form_bounds
