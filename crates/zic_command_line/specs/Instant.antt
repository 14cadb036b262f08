-- The words for instants: own choice.
use Rattle.std.specs.Prelude.{◌≢◌, ℕ, List, slice_index, FitsSigned}
use Rattle.std.specs.Int.{w64}
use Rattle.std.specs.Str.Parse.{IsNumeral, without_leading_sign, signed_digits_value}

-- an optional `-` and digits, within `i64`; a `+`, which is 43, may not stand there
pub record IsInstant (text : List ℕ) : Type 0 where
  pub no_plus : slice_index text 0 ≢ 43
  pub digits : IsNumeral 10 (without_leading_sign text)
  pub fits : FitsSigned w64 (signed_digits_value 10 text)
