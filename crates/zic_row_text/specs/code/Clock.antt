-- Parts of a time of day.
use Rattle.std.specs.Prelude.{ℕ, ◌/◌, ◌%◌, List, [], ◌∷◌, ◌++◌}
use Rattle.zic_base.specs.Digits.{two_digits}

-- the hour and the minute of a minute of a day, as `01:59:`
unfoldable pub minute_text : ℕ → List ℕ
minute_text n = two_digits (n / 60) ++ 58 ∷ (two_digits (n % 60) ++ 58 ∷ [])
