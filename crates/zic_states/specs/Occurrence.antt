-- The occurrences of a set's rules: zic(8), FILES, Rule lines.
use Rattle.std.specs.Prelude.{◌≡◌, ℕ, ◌^◌, ◌≤◌, ℤ, ◌+ℤ◌, ◌*ℤ◌, unsigned_abs, true, List, slice_get, Some}
use Rattle.zic_calendar.specs.declared.clock.TheConstants.{SECONDS_OF_DAY}
use Rattle.zic_calendar.specs.DayForm.{form_day}
use Rattle.zic_calendar.specs.Calendar.{day_number}
use Rattle.zic_lines.specs.declared.rule_line.Moment.{Moment}
use Rattle.zic_lines.specs.declared.rule_line.Rule.{Rule}
use Rattle.zic_source.specs.Source.{is_of_set}
use Rattle.zic_source.specs.Sound.{OccursIn}

-- a set of a source: all rules of the source, and the set's name
pub record RuleSet : Type 0 where
  pub rules : List Rule
  pub name : List ℕ

-- The source has this rule under this number, and it belongs to the set.
pub record IsMember (set : RuleSet) (number : ℕ) (rule : Rule) : Type 0 where
  pub numbered : slice_get set.rules number ≡ Some rule
  pub of_set : is_of_set set.name rule ≡ true

-- a rule, distinct from an equal one by its number in the source, and a year
pub record Occurrence : Type 0 where
  pub number : ℕ
  pub rule : Rule
  pub year : ℤ

-- An occurrence of the set: the rule belongs to it, and holds in the year.
pub record IsOccurrence (set : RuleSet) (o : Occurrence) : Type 0 where
  pub member : IsMember set o.number o.rule
  pub holds : OccursIn o.rule o.year

-- one rule in one year
pub record AreSame (o p : Occurrence) : Type 0 where
  pub number : o.number ≡ p.number
  pub year : o.year ≡ p.year

-- the seconds from 1970-01-01 00:00 to a moment of a year, by the clock by which it is meant: 86,400 times the number of the
-- day that month and day form name, plus the time
unfoldable pub nominal_second : ℤ → Moment → ℤ
nominal_second year moment = (SECONDS_OF_DAY *ℤ form_day year moment.month moment.on) +ℤ moment.at.seconds

-- the nominal second of an occurrence
abbrev pub nominal : Occurrence → ℤ
nominal o = nominal_second o.year o.rule.moment

-- the second at which a year begins
unfoldable pub year_second : ℤ → ℤ
year_second year = SECONDS_OF_DAY *ℤ day_number year 1 1

-- a second so near 1970 that the code can add offsets to it
abbrev pub IsNear : ℤ → Type 0
IsNear second = unsigned_abs second ≤ 10 ^ 12
