-- Days of years that begin on 1 March, counted from 0.
use Rattle.std.specs.Prelude.{ℕ, ◌+◌, ◌-◌, ◌*◌, ◌/◌, ◌%◌, nat_lt, if◌then◌else◌, List, [], ◌∷◌, ◌++◌}
use Rattle.zic_base.specs.Digits.{two_digits}

-- the month of a day, from 3 for March to 14 for February: five months have 153 days
abbrev pub month_from_march : ℕ → ℕ
month_from_march n = (5 * n + 461) / 153

-- its number in the calendar
abbrev pub march_month : ℕ → ℕ
march_month n = if nat_lt n 306 then month_from_march n else month_from_march n - 12

-- the day of the month, from 1
abbrev pub march_day_of_month : ℕ → ℕ
march_day_of_month n = (5 * n + 461) % 153 / 5 + 1

-- the month and the day of the month, as `-03-11T`
unfoldable pub march_text : ℕ → List ℕ
march_text n = 45 ∷ (two_digits (march_month n) ++ 45 ∷ (two_digits (march_day_of_month n) ++ 84 ∷ []))
