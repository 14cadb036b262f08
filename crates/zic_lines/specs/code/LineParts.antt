-- Parts of lines that functions of their own read.
use Rattle.std.specs.Prelude.{◌≡◌, ◌+◌, ℕ, not, List, [], ◌∷◌, is_some, Option, Some, IsTrue}
use Rattle.zic_base.specs.Check.{Check, check}
use Rattle.zic_base.specs.Option.{◌>>=◌, some_and}
use Rattle.zic_base.specs.declared.fault.Place.{Place}
use Rattle.zic_base.specs.declared.fault.Kind.TheVariants.{Year, YearOrder, Reserved, Month, Day, Time, Save, Letter, Format}
use Rattle.zic_calendar.specs.declared.day_form.On.{On}
use Rattle.zic_lines.specs.Year.{year_of, last_year_of, ends_before, is_one_leap_year}
use Rattle.zic_lines.specs.Month.{month_of}
use Rattle.zic_lines.specs.DayForm.{day_form_of}
use Rattle.zic_lines.specs.Clock.{clock_time_of}
use Rattle.zic_lines.specs.Dash.{is_dash}
use Rattle.zic_lines.specs.Saving.{saving_of}
use Rattle.zic_lines.specs.Letter.{letter_of}
use Rattle.zic_lines.specs.declared.rule_line.Moment.{Moment}
use Rattle.zic_lines.specs.declared.rule_line.Years.{Years}
use Rattle.zic_lines.specs.declared.rule_line.Times.{Times}
use Rattle.zic_lines.specs.declared.rule_line.Effect.{Effect}
use Rattle.zic_lines.specs.declared.rule_line.Rule.{Rule}
use Rattle.zic_lines.specs.Format.{format_of}
use Rattle.zic_lines.specs.declared.entry.FieldFault.{FieldFault}
use Rattle.zic_lines.specs.declared.entry.FieldFault.TheVariants.{At}
use Rattle.zic_lines.specs.Checks.{years_of, rule_day_of, until_checks}

-- the checks of FROM and TO
abbrev pub year_checks : List ℕ → List ℕ → List (Check FieldFault)
year_checks from to =
    check (is_some (year_of from)) (At Year 2)
    ∷ check (is_some (years_of from to)) (At Year 3)
    ∷ check (some_and (years_of from to) (λ years. not (ends_before years.1 years.0))) (At YearOrder 3)
    ∷ []

-- FROM and TO say these years
pub record SayYears (from to : List ℕ) (years : Years) : Type 0 where
  pub begins : year_of from ≡ Some years.first
  pub ends : last_year_of years.first to ≡ Some years.last
  pub in_order : IsTrue (not (ends_before years.last years.first))

-- the form of the day that ON says in these years and in the month that IN says
abbrev pub day_of : Years → List ℕ → List ℕ → Option On
day_of years month day = do
  in_month ← month_of month
  day_form_of (is_one_leap_year years.first years.last) in_month day

-- the checks of IN, ON and AT of a rule for these years
abbrev pub moment_checks : Years → List ℕ → List ℕ → List ℕ → List (Check FieldFault)
moment_checks years month day time =
    check (is_some (month_of month)) (At Month 5)
    ∷ check (is_some (day_of years month day)) (At Day 6)
    ∷ check (is_some (clock_time_of time)) (At Time 7)
    ∷ []

-- IN, ON and AT of a rule for these years say this moment
pub record SayMoment (years : Years) (month day time : List ℕ) (moment : Moment) : Type 0 where
  pub in_month : month_of month ≡ Some moment.month
  pub on_day : day_form_of (is_one_leap_year years.first years.last) moment.month day ≡ Some moment.on
  pub at_time : clock_time_of time ≡ Some moment.at

-- the checks of FROM, TO, the reserved field, IN, ON and AT
abbrev pub time_checks : List ℕ → List ℕ → List ℕ → List ℕ → List ℕ → List ℕ → List (Check FieldFault)
time_checks from to reserved month day time =
    check (is_some (year_of from)) (At Year 2)
    ∷ check (is_some (years_of from to)) (At Year 3)
    ∷ check (some_and (years_of from to) (λ years. not (ends_before years.1 years.0))) (At YearOrder 3)
    ∷ check (is_dash reserved) (At Reserved 4)
    ∷ check (is_some (month_of month)) (At Month 5)
    ∷ check (is_some (rule_day_of from to month day)) (At Day 6)
    ∷ check (is_some (clock_time_of time)) (At Time 7)
    ∷ []

-- these fields say these years and this moment
pub record SayTimes (from to reserved month day time : List ℕ) (times : Times) : Type 0 where
  pub years : SayYears from to times.years
  pub unused : IsTrue (is_dash reserved)
  pub moment : SayMoment times.years month day time times.moment

-- the checks of SAVE and LETTER
abbrev pub effect_checks : List ℕ → List ℕ → List (Check FieldFault)
effect_checks save letter = check (is_some (saving_of save)) (At Save 8) ∷ check (is_some (letter_of letter)) (At Letter 9) ∷ []

-- SAVE and LETTER say this
pub record SayEffect (save letter : List ℕ) (effect : Effect) : Type 0 where
  pub saves : saving_of save ≡ Some effect.saving
  pub abbreviates : letter_of letter ≡ Some effect.letter

-- a rule of these parts
abbrev pub rule_with : Place → List ℕ → Times → Effect → Rule
rule_with place name times effect = record {
  place = place;
  name = name;
  first = times.years.first;
  last = times.years.last;
  moment = times.moment;
  saving = effect.saving;
  letter = effect.letter;
}

-- the checks of FORMAT and the fields of an UNTIL, where STDOFF has this number
abbrev pub shown_checks : ℕ → List ℕ → List (List ℕ) → List (Check FieldFault)
shown_checks first format until = check (is_some (format_of format)) (At Format (first + 2)) ∷ until_checks (first + 3) until
