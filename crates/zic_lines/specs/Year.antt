-- Years of Rule lines and of an UNTIL: zic(8), FILES; digits and limits are own choice.
use Rattle.std.specs.Prelude.{ℕ, Bool, false, ◌&&◌, List, length, pos, Option, Some, None, option_map, if◌then◌else◌, nat_lt, nat_le, ◌==◌, codes}
use Rattle.std.specs.Int.{IsInRange}
use Rattle.zic_base.specs.Option.{◌>>=◌}
use Rattle.zic_calendar.specs.Calendar.{is_leap_year}
use Rattle.zic_lines.specs.declared.time.TheConstants.{MAX_DIGITS}
use Rattle.zic_lines.specs.declared.year.TheConstants.{FIRST_YEAR, LAST_YEAR}
use Rattle.zic_lines.specs.Word.{begins_word}
use Rattle.zic_base.specs.Number.{number}

-- a year that a line may name
abbrev pub IsYear : ℕ → Type 0
IsYear year = IsInRange FIRST_YEAR LAST_YEAR year

-- a year: one to nine digits, 1 to 9000
unfoldable pub year_of : List ℕ → Option ℕ
year_of field = do
  n ← number MAX_DIGITS field
  if nat_le FIRST_YEAR n && nat_le n LAST_YEAR then Some n else None

-- `only`, in full or cut
abbrev pub is_only : List ℕ → Bool
is_only field = begins_word (codes "only") field

-- `maximum`, in full or cut to at least two letters, so that it is no `minimum`
abbrev pub is_maximum : List ℕ → Bool
is_maximum field = nat_le 2 (length field) && begins_word (codes "maximum") field

-- TO: the year FROM, no last year, or a year
unfoldable pub last_year_of : ℕ → List ℕ → Option (Option ℕ)
last_year_of first field = if is_only field then Some (Some first) else (if is_maximum field then Some None else option_map (λ year. Some year) (year_of field))

-- The last year lies before the first.
abbrev pub ends_before : Option ℕ → ℕ → Bool
ends_before None first = false
ends_before (Some last) first = nat_lt last first

-- The rule holds in one year only, a leap year.
abbrev pub is_one_leap_year : ℕ → Option ℕ → Bool
is_one_leap_year first None = false
is_one_leap_year first (Some last) = first == last && is_leap_year (pos first)
