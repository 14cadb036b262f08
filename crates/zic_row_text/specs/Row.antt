-- The text of a row: own choice, in the manner of RFC 3339 for local time and offset.
use Rattle.std.specs.Prelude.{ℕ, ◌/◌, ◌%◌, ◌==◌, ℤ, ◌+ℤ◌, ◌≤◌, length, take, unsigned_abs, if◌then◌else◌, List, [], ◌∷◌, ◌++◌}
use Rattle.std.specs.Fmt.{signed_decimal}
use Rattle.zic_base.specs.Digits.{two_digits, offset_text}
use Rattle.zic_base.specs.State.{Shown}
use Rattle.zic_calendar.specs.declared.civil_time.Civil.{Civil}
use Rattle.zic_base.specs.declared.constants.TheConstants.{LONGEST_ABBREVIATION}
use Rattle.zic_layouts.specs.declared.layout.Style.{Style}
use Rattle.zic_layouts.specs.declared.layout.Style.TheVariants as styles
use Rattle.zic_row_text.specs.Instant.{IsRowOffset}
use Rattle.zic_row_text.specs.Local.{local_time}

-- a number below 10,000 in four digits
abbrev pub four_digits : ℕ → List ℕ
four_digits n = two_digits (n / 100) ++ two_digits (n % 100)

-- year, month and day, as `2007-03-11`
abbrev pub date_text : Civil → List ℕ
date_text c = four_digits (unsigned_abs c.year) ++ 45 ∷ (two_digits c.month ++ 45 ∷ two_digits c.day)

-- date and time, as `2007-03-11T01:59:59`
abbrev pub civil_text : Civil → List ℕ
civil_text c = date_text c ++ 84 ∷ (two_digits c.hour ++ 58 ∷ (two_digits c.minute ++ 58 ∷ two_digits c.second))

-- the local time of an instant at this offset
unfoldable pub local_text : ℤ → ℤ → List ℕ
local_text instant offset = civil_text (local_time (instant +ℤ offset))

-- a state's offset, daylight flag and abbreviation after a delimiter each, and a newline
unfoldable pub state_text : ℕ → Shown → List ℕ
state_text d shown = d ∷ (offset_text shown.offset ++ d ∷ (if shown.daylight then 49 else 48) ∷ d ∷ (shown.name ++ 10 ∷ []))

-- a UT offset after a local time, as `-04:00`, and with its seconds where it has some, as `-04:56:02`: RFC 3339, 5.6, has no seconds
abbrev pub iso_offset_text : ℤ → List ℕ
iso_offset_text offset = if unsigned_abs offset % 60 == 0 then take 6 (offset_text offset) else offset_text offset

-- a state after a local time in one field with the offset: the offset, then the daylight flag and the abbreviation, each after a delimiter, and
-- a newline
unfoldable pub iso_state_text : ℕ → Shown → List ℕ
iso_state_text d shown = iso_offset_text shown.offset ++ d ∷ (if shown.daylight then 49 else 48) ∷ d ∷ (shown.name ++ 10 ∷ [])

-- a state after the local time of a row of this style
abbrev pub styled_text : ℕ → Style → Shown → List ℕ
styled_text d styles.Fields shown = state_text d shown
styled_text d styles.Iso shown = iso_state_text d shown

-- the text that follows the instant: its local time and the state, as `,1970-01-01T00:00:00,+00:00:00,0,UTC` and a newline
unfoldable pub rest_text : ℤ → Shown → List ℕ
rest_text instant shown = 44 ∷ (local_text instant shown.offset ++ state_text 44 shown)

-- the text of a row: its name, its instant in plain decimals, and the rest
unfoldable pub row_text : List ℕ → ℤ → Shown → List ℕ
row_text name instant shown = name ++ 44 ∷ (signed_decimal instant ++ rest_text instant shown)

-- a row may have this state
pub record IsRowState (shown : Shown) : Type 0 where
  pub offset : IsRowOffset shown.offset
  pub name : length shown.name ≤ LONGEST_ABBREVIATION
