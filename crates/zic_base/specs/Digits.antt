-- Times of day and UT offsets in decimal digits: RFC 3339, 5.6, has hours and minutes of an offset so; its seconds are an own choice.
use Rattle.std.specs.Prelude.{ℕ, ◌/◌, ◌%◌, ◌+◌, ℤ, pos, int_lt, unsigned_abs, if◌then◌else◌, List, [], ◌∷◌, ◌++◌}

-- a number below 100 in two digits
abbrev pub two_digits : ℕ → List ℕ
two_digits n = (48 + n / 10) ∷ (48 + n % 10) ∷ []

-- fewer than 100 hours, as hours, minutes and seconds: `01:59:59`
abbrev pub clock_text : ℕ → List ℕ
clock_text seconds =
    two_digits (seconds / 3600) ++ 58 ∷ (two_digits (seconds / 60 % 60) ++ 58 ∷ two_digits (seconds % 60))

-- an offset's sign, hours, minutes and seconds: `-05:00:00`
abbrev pub offset_text : ℤ → List ℕ
offset_text offset = (if int_lt offset (pos 0) then 45 else 43) ∷ clock_text (unsigned_abs offset)
