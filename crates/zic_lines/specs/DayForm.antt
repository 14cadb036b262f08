-- Which day of the month ON of a Rule line or the DAY of an UNTIL names: zic(8), FILES; which numbers may stand there is own choice.
use Rattle.std.specs.Prelude.{◌≡◌, ℕ, ℤ, Bool, true, false, ◌&&◌, List, [], ◌∷◌, drop, Option, Some, None, option_map, if◌then◌else◌, nat_le, nat_eq, ◌==◌, codes}
use Rattle.std.specs.List.{starts_with}
use Rattle.std.specs.Str.{str_to_ascii_lowercase}
use Rattle.zic_base.specs.Option.{◌>>=◌}
use Rattle.zic_calendar.specs.Calendar.{is_leap_year, month_length}
use Rattle.zic_calendar.specs.declared.day_form.On.{On}
use Rattle.zic_calendar.specs.declared.day_form.On.TheVariants.{Day, Last, After, Before}
use Rattle.zic_calendar.specs.DayForm.{FormFits}
use Rattle.zic_lines.specs.Parts.{split_at_most_once}
use Rattle.zic_lines.specs.Word.{only_word}
use Rattle.zic_base.specs.Number.{number}

-- the weekdays in order, in lower case
abbrev pub weekday_words : List (List ℕ)
weekday_words = codes "sunday" ∷ codes "monday" ∷ codes "tuesday" ∷ codes "wednesday" ∷ codes "thursday" ∷ codes "friday" ∷ codes "saturday" ∷ []

-- a weekday, 0 (Sunday) to 6, from its name or a prefix of it that no other weekday has
unfoldable pub weekday_of : List ℕ → Option ℕ
weekday_of field = only_word weekday_words field

-- a day of the month: one or two digits, from 1 to this number
unfoldable pub day_within : ℕ → List ℕ → Option ℕ
day_within longest field = do
  n ← number 2 field
  if nat_le 1 n && nat_le n longest then Some n else None

-- the weekday after `last`, which is in any ASCII case and never cut
unfoldable pub last_weekday : List ℕ → Option ℕ
last_weekday field = if starts_with nat_eq (str_to_ascii_lowercase field) (codes "last") then weekday_of (drop 4 field) else None

-- what follows this byte, where the text begins with it
abbrev pub text_after : ℕ → List ℕ → Option (List ℕ)
text_after first [] = None
text_after first (byte ∷ bytes) = if byte == first then Some bytes else None

-- a weekday, this sign and `=`, and a day of the month up to this number
unfoldable pub weekday_and_day : ℕ → ℕ → List ℕ → Option (ℕ × ℕ)
weekday_and_day sign longest field = do
  parts ← split_at_most_once field sign
  bound ← parts.1
  text ← text_after 61 bound
  weekday ← weekday_of parts.0
  day ← day_within longest text
  Some (weekday, day)

-- the first of two that is there
abbrev pub or_else : {X : Type 0} → Option X → Option X → Option X
or_else None other = other
or_else (Some x) other = Some x

-- `lastX`, `X>=D`, `X<=D` or a day. 29 February is a day where only one year is meant, a leap year; it may not stand after
-- `>=`, and after `<=` means the last of the month.
unfoldable pub day_form_of : Bool → ℕ → List ℕ → Option On
day_form_of one_leap_year month field =
    or_else (option_map Last (last_weekday field))
    (or_else (option_map (λ both. After both.0 both.1) (weekday_and_day 62 (month_length false month) field))
    (or_else (option_map (λ both. Before both.0 both.1) (weekday_and_day 60 (month_length true month) field))
    (option_map Day (day_within (month_length one_leap_year month) field))))

-- The form fits the month in each year that is meant: in each leap year, or in every year.
abbrev pub FitsEachYear : Bool → ℕ → On → Type 0
FitsEachYear one_leap_year month form = (year : ℤ) → (one_leap_year ≡ true → is_leap_year year ≡ true) → FormFits year month form
