-- The instant of a row: seconds from 1970-01-01T00:00:00 UT, without leap seconds. Digits and range are own choice.
use Rattle.std.specs.Prelude.{ℕ, ℤ, ◌≤ℤ◌, ◌≤◌, unsigned_abs, List, Option}
pub use Rattle.zic_base.specs.Number.{decimal_value, number}
use Rattle.zic_base.specs.Number.{signed}
use Rattle.zic_row_text.specs.declared.count.TheConstants.{MAX_DIGITS, FIRST_INSTANT, LAST_INSTANT, FARTHEST_OFFSET}

-- the instant of a field: a number of 1 to 18 digits, perhaps after a `-`
unfoldable pub instant_of : List ℕ → Option ℤ
instant_of field = signed (number MAX_DIGITS) field

-- A row may have this instant: with any offset within 24 hours the local time lies in the years 1 to 9999.
abbrev pub IsRowInstant : ℤ → Type 0
IsRowInstant instant = (FIRST_INSTANT ≤ℤ instant) × (instant ≤ℤ LAST_INSTANT)

-- a row may have this offset
abbrev pub IsRowOffset : ℤ → Type 0
IsRowOffset offset = unsigned_abs offset ≤ FARTHEST_OFFSET
