-- Times and offsets: zic(8), FILES; digits and limits are own choice.
use Rattle.std.specs.Prelude.{ℕ, ◌+◌, ◌-◌, ◌*◌, ◌/◌, ◌%◌, ◌^◌, ◌≤◌, List, [], ◌∷◌, length, ℤ, pos, unsigned_abs, Option, Some, None, option_map, if◌then◌else◌, nat_lt, nat_le, ◌==◌}
use Rattle.std.specs.List.{slice_split}
use Rattle.zic_base.specs.Number.{number, signed}
use Rattle.zic_base.specs.Option.{◌>>=◌}
use Rattle.zic_lines.specs.declared.time.TheConstants.{MAX_DIGITS, GREATEST_OFFSET}
use Rattle.zic_lines.specs.Parts.{split_at_most_once}
use Rattle.zic_lines.specs.Dash.{is_dash}

-- minutes or seconds: one or two digits, 0 to 59
unfoldable pub sixtieths : List ℕ → Option ℕ
sixtieths text = do
  n ← number 2 text
  if nat_lt n 60 then Some n else None

-- the decimals after a point, one to nine of them, in billionths; without a point, 0
unfoldable pub decimals : Option (List ℕ) → Option ℕ
decimals None = Some 0
decimals (Some text) = option_map (λ n. n * 10 ^ (MAX_DIGITS - length text)) (number MAX_DIGITS text)

-- `SS` or `SS.DECIMALS`, in billionths of a second
unfoldable pub seconds_of : List ℕ → Option ℕ
seconds_of text = do
  parts ← split_at_most_once text 46
  s ← sixtieths parts.0
  f ← decimals parts.1
  Some (10 ^ 9 * s + f)

-- hours, minutes and billionths of a second together, where each is there
abbrev pub time_of : Option ℕ → Option ℕ → Option ℕ → Option ℕ
time_of hours minutes billionths = do
  h ← hours
  m ← minutes
  b ← billionths
  Some (10 ^ 9 * (3600 * h + 60 * m) + b)

-- a time by its parts between colons, in billionths of a second: hours of one to nine digits, minutes, seconds
abbrev pub time_of_parts : List (List ℕ) → Option ℕ
time_of_parts [] = None
time_of_parts (h ∷ []) = time_of (number MAX_DIGITS h) (Some 0) (Some 0)
time_of_parts (h ∷ m ∷ []) = time_of (number MAX_DIGITS h) (sixtieths m) (Some 0)
time_of_parts (h ∷ m ∷ s ∷ []) = time_of (number MAX_DIGITS h) (sixtieths m) (seconds_of s)
time_of_parts (h ∷ m ∷ s ∷ part ∷ parts) = None

-- a time without its sign, in billionths of a second
unfoldable pub magnitude : List ℕ → Option ℕ
magnitude text = time_of_parts (slice_split (λ byte. byte == 58) text)

-- the whole second nearest to a time in billionths, and of two equally near the even one: one more than its whole seconds, where the
-- fraction is above a half, or is a half after an odd second
unfoldable pub nearest_second : ℕ → ℕ
nearest_second n = if nat_lt (10 ^ 9) (2 * (n % 10 ^ 9) + n / 10 ^ 9 % 2) then n / 10 ^ 9 + 1 else n / 10 ^ 9

-- a time without its sign in whole seconds, at most the limit after rounding
unfoldable pub whole_seconds : ℕ → List ℕ → Option ℕ
whole_seconds limit text = do
  time ← option_map nearest_second (magnitude text)
  if nat_le time limit then Some time else None

-- at most this many seconds either way
abbrev pub IsWithin : ℕ → ℤ → Type 0
IsWithin limit seconds = unsigned_abs seconds ≤ limit

-- a time in whole seconds, negated after a `-`, at most the limit either way
unfoldable pub signed_seconds : ℕ → List ℕ → Option ℤ
signed_seconds limit text = signed (whole_seconds limit) text

-- STDOFF in seconds, positive east, at most 24 hours either way; `-` is 0
unfoldable pub offset_of : List ℕ → Option ℤ
offset_of field = if is_dash field then Some (pos 0) else signed_seconds GREATEST_OFFSET field
