use Rattle.std.proofs.Common.{pos, ◌+ℤ◌, refl, arith}
use Rattle.jiff_core.proofs.SignedLemmas.{signed_arith}
use Rattle.zic_calendar.proofs.YearLemmas.{year_start-next, year_start-1970}
use Rattle.zic_calendar.proofs.DateLemmas.{day_number-next_month, days_of_months-zero}
use Rattle.zic_calendar.proofs.laws.years_and_months_follow.Goals as goal

pub returns : goal.returns
returns c = record {
  epoch = omega (arith, signed_arith, year_start-1970, days_of_months-zero (pos 1970));
  years = λ y. omega (arith, signed_arith, year_start-next y (y +ℤ pos 1) refl, days_of_months-zero y, days_of_months-zero (y +ℤ pos 1));
  months = λ y m h. omega (arith, signed_arith, day_number-next_month y m h);
}
