use Rattle.std.proofs.Common.{pos, ◌+ℤ◌, refl}
use Rattle.zic_calendar.proofs.DateLemmas.{day_number-period}
use Rattle.zic_calendar.proofs.FormLemmas.{form_day-period, FormFits-period}
use Rattle.zic_calendar.proofs.laws.calendar_repeats.Goals as goal

pub returns : goal.returns
returns c = record {
  dates = λ y m d. day_number-period y (y +ℤ pos 400) m d refl;
  forms = λ y m f. form_day-period y (y +ℤ pos 400) m f refl;
  fits = λ y m f. FormFits-period y (y +ℤ pos 400) m f refl;
  weeks = refl;
}
