-- A Rule line: zic(8), FILES.
use Rattle.std.specs.Prelude.{◌≡◌, ℕ, not, List, [], ◌∷◌, Some, IsTrue}
use Rattle.zic_base.specs.declared.fault.Place.{Place}
use Rattle.zic_lines.specs.declared.rule_line.Rule.{Rule}
use Rattle.zic_lines.specs.Dash.{is_dash}
use Rattle.zic_lines.specs.declared.keyword.Keyword.TheVariants as keywords
use Rattle.zic_lines.specs.Keyword.{keyword_of}
use Rattle.zic_lines.specs.SetName.{is_set_name}
use Rattle.zic_lines.specs.Year.{year_of, last_year_of, ends_before, is_one_leap_year}
use Rattle.zic_lines.specs.Month.{month_of}
use Rattle.zic_lines.specs.DayForm.{day_form_of}
use Rattle.zic_lines.specs.Clock.{clock_time_of}
use Rattle.zic_lines.specs.Saving.{saving_of}
use Rattle.zic_lines.specs.Letter.{letter_of}

-- The fields at this place are `Rule NAME FROM TO - IN ON AT SAVE LETTER`, and say this of a rule.
pub record IsRuleLine (place : Place) (fields : List (List ℕ)) (rule : Rule) : Type 0 where
  pub keyword : List ℕ
  pub from : List ℕ
  pub to : List ℕ
  pub reserved : List ℕ
  pub month : List ℕ
  pub day : List ℕ
  pub time : List ℕ
  pub save : List ℕ
  pub letter : List ℕ
  pub ten : fields ≡ keyword ∷ rule.name ∷ from ∷ to ∷ reserved ∷ month ∷ day ∷ time ∷ save ∷ letter ∷ []
  pub is_rule : keyword_of keyword ≡ Some keywords.Rule
  pub named : IsTrue (is_set_name rule.name)
  pub begins : year_of from ≡ Some rule.first
  pub ends : last_year_of rule.first to ≡ Some rule.last
  pub in_order : IsTrue (not (ends_before rule.last rule.first))
  pub unused : IsTrue (is_dash reserved)
  pub in_month : month_of month ≡ Some rule.moment.month
  pub on_day : day_form_of (is_one_leap_year rule.first rule.last) rule.moment.month day ≡ Some rule.moment.on
  pub at_time : clock_time_of time ≡ Some rule.moment.at
  pub saves : saving_of save ≡ Some rule.saving
  pub abbreviates : letter_of letter ≡ Some rule.letter
  pub located : rule.place ≡ place
