-- The text of `zdump -i`: zdump(8), INTERVAL FORMAT. Years have four digits.
use Rattle.std.specs.Prelude.{◌≡◌, ℕ, ◌/◌, ◌%◌, pos, int_lt, unsigned_abs, ◌==◌, ◌&&◌, ◌||◌, bytes_eq, nat_lt, length, slice_index, if◌then◌else◌, codes, List, [], ◌∷◌, ◌++◌, Bool, Option}
use Rattle.std.specs.Ordering.{int_eq}
use Rattle.std.specs.Char.{is_ascii_alphabetic}
use Rattle.std.specs.List.{flat_map, list_all}
use Rattle.zic_base.specs.Digits.{two_digits}
use Rattle.zic_base.specs.State.{Shown}
use Rattle.zic_calendar.specs.declared.civil_time.Civil.{Civil}
use Rattle.zic_tzif.specs.Content.{Content}
use Rattle.zic_tzif.specs.Answer.{Answers}
use Rattle.zic_tzif.specs.Reading.{IsFile}
use Rattle.zic_dump.specs.Changes.{Change, shown_for, AreChanges}
use Rattle.zic_dump.specs.Years.{Between, year_instant}

-- hours, minutes and seconds, two digits each, after the first with this before them; seconds that
-- are 0 are left out, and then minutes that are
abbrev pub clock_text : List ℕ → ℕ → ℕ → ℕ → List ℕ
clock_text mark hour minute second =
    two_digits hour
    ++ (if (minute == 0) && (second == 0) then []
    else mark ++ (two_digits minute ++ (if second == 0 then [] else mark ++ two_digits second)))

-- a date, as `2007-03-11`
abbrev pub date_text : Civil → List ℕ
date_text c =
    let year = unsigned_abs c.year in
    two_digits (year / 100)
    ++ (two_digits (year % 100) ++ 45 ∷ (two_digits c.month ++ 45 ∷ two_digits c.day))

-- a time of day, as `03`, `03:30` or `02:25:21`
abbrev pub time_text : Civil → List ℕ
time_text c = clock_text (58 ∷ []) c.hour c.minute c.second

-- the offset is one of a place without local time: 0, by the abbreviation `zzz` or one that begins
-- with `-`
abbrev pub is_placeholder : Shown → Bool
is_placeholder s =
    int_eq s.offset (pos 0) && ((slice_index s.name 0 == 45) || bytes_eq s.name (codes "zzz"))

-- an offset, as `-05`, `+0530`, `-004430` or, of a place without local time, `-00`
abbrev pub zdump_offset : Shown → List ℕ
zdump_offset s =
    let seconds = unsigned_abs s.offset in
    (if int_lt s.offset (pos 0) || is_placeholder s then 45 else 43)
    ∷ clock_text [] (seconds / 3600) (seconds / 60 % 60) (seconds % 60)

-- a byte between double quotes: a double quote, a backslash and white space follow a backslash,
-- as `\n`
abbrev pub escaped : ℕ → List ℕ
escaped b =
    if (b == 34) || (b == 92) then 92 ∷ b ∷ []
    else (if b == 32 then 92 ∷ 115 ∷ []
    else (if b == 12 then 92 ∷ 102 ∷ []
    else (if b == 10 then 92 ∷ 110 ∷ []
    else (if b == 13 then 92 ∷ 114 ∷ []
    else (if b == 9 then 92 ∷ 116 ∷ []
    else (if b == 11 then 92 ∷ 118 ∷ []
    else b ∷ []))))))

-- a text between double quotes
abbrev pub quoted : List ℕ → List ℕ
quoted text = 34 ∷ (flat_map escaped text ++ 34 ∷ [])

-- letters, and some
abbrev pub is_word : List ℕ → Bool
is_word text = nat_lt 0 (length text) && list_all is_ascii_alphabetic text

-- an abbreviation of letters as it is, and any other between double quotes
abbrev pub name_text : List ℕ → List ℕ
name_text name = if is_word name then name else quoted name

-- An offset, an abbreviation and a daylight flag, a tab between them. An abbreviation that is the
-- offset's text is empty, and a flag of standard time is left out; so are tabs at the end.
abbrev pub state_text : Shown → List ℕ
state_text s =
    let offset = zdump_offset s in
    let same = bytes_eq offset s.name in
    offset
    ++ ((if same then [] else 9 ∷ name_text s.name)
    ++ (if s.daylight then (if same then 9 ∷ [] else []) ++ 9 ∷ 49 ∷ [] else []))

-- a line: a date, a time of day and a state
abbrev pub line_text : Civil → Shown → List ℕ
line_text local s = date_text local ++ 9 ∷ (time_text local ++ 9 ∷ (state_text s ++ 10 ∷ []))

-- the line of a change: local time right after it, and what is shown from then on
abbrev pub change_line : Change → List ℕ
change_line c = line_text c.local (shown_for c.answer)

-- the lines before those of the changes: an empty one, one with the file's path, and what is shown
-- before all changes
abbrev pub head_text : List ℕ → Option Shown → List ℕ
head_text path before =
    10 ∷ (codes "TZ="
    ++ (quoted path ++ 10 ∷ 45 ∷ 9 ∷ 45 ∷ 9 ∷ (state_text (shown_for before) ++ 10 ∷ [])))

-- the text for the bytes of a file at a path, and the years whose changes are listed
pub record IsDump (path bytes : List ℕ) (years : Between) (text : List ℕ) : Type 0 where
  pub content : Content
  pub is_file : IsFile bytes content
  pub before : Option Shown
  pub answers : Answers content (year_instant years.from) before
  pub changes : List Change
  pub are_changes : AreChanges content (year_instant years.from) (year_instant years.to) changes
  pub is : text ≡ head_text path before ++ flat_map change_line changes
