-- Dates and times of day that lines have, and what follows them.
use Rattle.std.specs.Prelude.{◌<◌, ℕ, List, [], ◌∷◌, ◌++◌, bytes_eq, if◌then◌else◌}
use Rattle.zic_base.specs.State.{Shown}
use Rattle.zic_dump.specs.Text.{name_text}
use Rattle.zic_calendar.specs.Calendar.{IsSupportedYear}
use Rattle.zic_calendar.specs.declared.civil_time.Civil.{Civil}

-- a year of four digits, and two digits for each other number
pub record IsWritten (c : Civil) : Type 0 where
  pub year : IsSupportedYear c.year
  pub month : c.month < 100
  pub day : c.day < 100
  pub hour : c.hour < 100
  pub minute : c.minute < 100
  pub second : c.second < 100

-- the text of a state whose offset has this text
abbrev pub text_with : List ℕ → Shown → List ℕ
text_with offset s =
    let same = bytes_eq offset s.name in
    offset
    ++ ((if same then [] else 9 ∷ name_text s.name)
    ++ (if s.daylight then (if same then 9 ∷ [] else []) ++ 9 ∷ 49 ∷ [] else []))
