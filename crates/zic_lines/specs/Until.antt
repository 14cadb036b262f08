-- The UNTIL of a zone's line: zic(8), FILES; digits and limits are own choice.
use Rattle.std.specs.Prelude.{ℕ, List, [], ◌∷◌, pos, Option, Some, None, option_map, codes}
use Rattle.zic_calendar.specs.Calendar.{is_leap_year}
use Rattle.zic_lines.specs.declared.until.Until.{Until}
use Rattle.zic_base.specs.Option.{◌>>=◌}
use Rattle.zic_lines.specs.Year.{year_of}
use Rattle.zic_lines.specs.Month.{month_of}
use Rattle.zic_lines.specs.DayForm.{day_form_of}
use Rattle.zic_lines.specs.Clock.{clock_time_of}

-- YEAR MONTH DAY TIME, with a plain day that the month has in that year
unfoldable pub until_at : List ℕ → List ℕ → List ℕ → List ℕ → Option Until
until_at year month day time = do
  y ← year_of year
  m ← month_of month
  on ← day_form_of (is_leap_year (pos y)) m day
  clock ← clock_time_of time
  Some (record { year = y; moment = record { month = m; on = on; at = clock } })

-- UNTIL, where there is one. Missing parts are January, day 1 and 0 by the wall clock.
unfoldable pub until_of : List (List ℕ) → Option (Option Until)
until_of [] = Some None
until_of (year ∷ []) = option_map (λ until. Some until) (until_at year (codes "Jan") (codes "1") (codes "-"))
until_of (year ∷ month ∷ []) = option_map (λ until. Some until) (until_at year month (codes "1") (codes "-"))
until_of (year ∷ month ∷ day ∷ []) = option_map (λ until. Some until) (until_at year month day (codes "-"))
until_of (year ∷ month ∷ day ∷ time ∷ []) = option_map (λ until. Some until) (until_at year month day time)
until_of (year ∷ month ∷ day ∷ time ∷ more ∷ fields) = None
