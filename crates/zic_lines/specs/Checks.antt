-- The checks of a line in order, each with the kind of fault of a line that fails it and the number, from 0, of the field that it is
-- about; the first that fails decides. The order and the fields are own choice. `Grammar` defines what a line says: one that fails no
-- check says just one thing.
use Rattle.std.specs.Prelude.{ℕ, ◌+◌, Bool, true, false, not, List, [], ◌∷◌, ◌++◌, length, map, is_some, Option, Some, None, nat_le, pos, slice_index_or, codes}
use Rattle.zic_base.specs.declared.fault.Kind.{Kind}
use Rattle.zic_base.specs.declared.fault.Kind.TheVariants.{NotAscii, Quote, LineTooLong, Keyword, FieldCount, Name, Year, YearOrder, Reserved, Month, Day, Time, Save, Letter, Offset, Format, Until}
use Rattle.zic_base.specs.Check.{Check, check, first_failed}
use Rattle.zic_base.specs.Option.{◌>>=◌, some_and}
use Rattle.zic_calendar.specs.Calendar.{is_leap_year}
use Rattle.zic_calendar.specs.declared.day_form.On.{On}
use Rattle.zic_lines.specs.declared.keyword.Keyword as keyword
use Rattle.zic_lines.specs.declared.keyword.Keyword.TheVariants as keywords
use Rattle.zic_lines.specs.Dash.{is_dash}
use Rattle.zic_lines.specs.Keyword.{keyword_of}
use Rattle.zic_lines.specs.Name.{is_name}
use Rattle.zic_lines.specs.SetName.{is_set_name}
use Rattle.zic_lines.specs.Year.{year_of, last_year_of, ends_before, is_one_leap_year}
use Rattle.zic_lines.specs.Month.{month_of}
use Rattle.zic_lines.specs.DayForm.{day_form_of}
use Rattle.zic_lines.specs.Clock.{clock_time_of}
use Rattle.zic_lines.specs.Saving.{saving_of}
use Rattle.zic_lines.specs.Letter.{letter_of}
use Rattle.zic_lines.specs.Time.{offset_of}
use Rattle.zic_lines.specs.declared.field.TheConstants.{LONGEST_LINE}
use Rattle.zic_lines.specs.Field.{is_ascii_code, is_closed, fields}
use Rattle.zic_lines.specs.RulesField.{rules_of, rules_kind}
use Rattle.zic_lines.specs.Format.{format_of}
use Rattle.zic_lines.specs.declared.entry.FieldFault.{FieldFault}
use Rattle.zic_lines.specs.declared.entry.FieldFault.TheVariants.{Count, At}

-- the checks of any line's bytes
abbrev pub byte_checks : List ℕ → List (Check Kind)
byte_checks bytes =
    check (nat_le (length bytes) LONGEST_LINE) LineTooLong
    ∷ check (is_ascii_code bytes) NotAscii
    ∷ check (is_closed bytes) Quote
    ∷ []

-- the kind of a fault of fields
abbrev pub kind_of : FieldFault → Kind
kind_of Count = FieldCount
kind_of (At kind field) = kind

-- the number of the field that it is about, if it is about one
abbrev pub field_of : FieldFault → Option ℕ
field_of Count = None
field_of (At kind field) = Some field

-- the years that FROM and TO say
abbrev pub years_of : List ℕ → List ℕ → Option (ℕ × Option ℕ)
years_of from to = do
  first ← year_of from
  last ← last_year_of first to
  Some (first, last)

-- the form of the day that ON says, in the years and the month of the rule
abbrev pub rule_day_of : List ℕ → List ℕ → List ℕ → List ℕ → Option On
rule_day_of from to month day = do
  years ← years_of from to
  in_month ← month_of month
  day_form_of (is_one_leap_year years.0 years.1) in_month day

-- `Rule NAME FROM TO - IN ON AT SAVE LETTER`
abbrev pub rule_checks : List (List ℕ) → List (Check FieldFault)
rule_checks (keyword ∷ name ∷ from ∷ to ∷ reserved ∷ month ∷ day ∷ time ∷ save ∷ letter ∷ []) =
    check (is_set_name name) (At Name 1)
    ∷ check (is_some (year_of from)) (At Year 2)
    ∷ check (is_some (years_of from to)) (At Year 3)
    ∷ check (some_and (years_of from to) (λ years. not (ends_before years.1 years.0))) (At YearOrder 3)
    ∷ check (is_dash reserved) (At Reserved 4)
    ∷ check (is_some (month_of month)) (At Month 5)
    ∷ check (is_some (rule_day_of from to month day)) (At Day 6)
    ∷ check (is_some (clock_time_of time)) (At Time 7)
    ∷ check (is_some (saving_of save)) (At Save 8)
    ∷ check (is_some (letter_of letter)) (At Letter 9)
    ∷ []
rule_checks fields = check false Count ∷ []

-- the form of the day that an UNTIL says, in its year and month
abbrev pub until_day_of : List ℕ → List ℕ → List ℕ → Option On
until_day_of year month day = do
  in_year ← year_of year
  in_month ← month_of month
  day_form_of (is_leap_year (pos in_year)) in_month day

-- `YEAR MONTH DAY TIME`, of which the first is the field of this number
abbrev pub date_checks : ℕ → List ℕ → List ℕ → List ℕ → List ℕ → List (Check FieldFault)
date_checks first year month day time =
    check (is_some (year_of year)) (At Until first)
    ∷ check (is_some (month_of month)) (At Until (first + 1))
    ∷ check (is_some (until_day_of year month day)) (At Until (first + 2))
    ∷ check (is_some (clock_time_of time)) (At Until (first + 3))
    ∷ []

-- the fields of an UNTIL, if there is one, with January, day 1 and 0 by the wall clock for those that are missing
abbrev pub until_checks : ℕ → List (List ℕ) → List (Check FieldFault)
until_checks first [] = []
until_checks first (year ∷ others) = date_checks first year (slice_index_or others 0 (codes "Jan")) (slice_index_or others 1 (codes "1")) (slice_index_or others 2 (codes "-"))

-- what Zone and continuation lines have in common: `STDOFF RULES FORMAT` and the fields of an UNTIL; STDOFF has this number
abbrev pub zone_part_checks : ℕ → List ℕ → List ℕ → List ℕ → List (List ℕ) → List (Check FieldFault)
zone_part_checks first stdoff rules format until =
    check (is_some (offset_of stdoff)) (At Offset first)
    ∷ check (is_some (rules_of rules)) (At (rules_kind rules) (first + 1))
    ∷ check (is_some (format_of format)) (At Format (first + 2))
    ∷ until_checks (first + 3) until

-- `Zone NAME STDOFF RULES FORMAT [YEAR [MONTH [DAY [TIME]]]]`
abbrev pub zone_checks : List (List ℕ) → List (Check FieldFault)
zone_checks (keyword ∷ name ∷ stdoff ∷ rules ∷ format ∷ until) =
    check (nat_le (length until) 4) Count
    ∷ check (is_name name) (At Name 1)
    ∷ zone_part_checks 2 stdoff rules format until
zone_checks fields = check false Count ∷ []

-- `STDOFF RULES FORMAT [YEAR [MONTH [DAY [TIME]]]]`
abbrev pub continuation_checks : List (List ℕ) → List (Check FieldFault)
continuation_checks (stdoff ∷ rules ∷ format ∷ until) =
    check (nat_le (length until) 4) Count
    ∷ zone_part_checks 0 stdoff rules format until
continuation_checks fields = check false Count ∷ []

-- `Link TARGET LINK-NAME`
abbrev pub link_checks : List (List ℕ) → List (Check FieldFault)
link_checks (keyword ∷ target ∷ name ∷ []) =
    check (is_name target) (At Name 1)
    ∷ check (is_name name) (At Name 2)
    ∷ []
link_checks fields = check false Count ∷ []

-- the checks of the fields of a line that begins with this keyword
abbrev pub keyword_checks : Option keyword.Keyword → List (List ℕ) → List (Check FieldFault)
keyword_checks None fields = check false (At Keyword 0) ∷ []
keyword_checks (Some keywords.Rule) fields = rule_checks fields
keyword_checks (Some keywords.Zone) fields = zone_checks fields
keyword_checks (Some keywords.Link) fields = link_checks fields

-- The checks of the fields of a line. One without fields has no statement; where a continuation line is awaited the fields are its
-- fields, whatever the first is.
abbrev pub numbered_checks : Bool → List (List ℕ) → List (Check FieldFault)
numbered_checks awaited [] = []
numbered_checks true (field ∷ fields) = continuation_checks (field ∷ fields)
numbered_checks false (field ∷ fields) = keyword_checks (keyword_of field) (field ∷ fields)

-- the number of the field that the first of these checks to fail is about
abbrev pub faulty_field : Bool → List (List ℕ) → Option ℕ
faulty_field awaited fields = first_failed (numbered_checks awaited fields) >>= field_of

-- these checks, each with the kind of fault alone
abbrev pub field_checks : Bool → List (List ℕ) → List (Check Kind)
field_checks awaited fields = map (λ c. check c.passes (kind_of c.reason)) (numbered_checks awaited fields)

-- all checks of a line, where a continuation line is awaited or not
abbrev pub line_checks : Bool → List ℕ → List (Check Kind)
line_checks awaited bytes = byte_checks bytes ++ field_checks awaited (fields bytes)
