-- Numbers in plain decimals.
use Rattle.std.specs.Prelude.{◌≡◌, ℕ, ◌+◌, List, Some}
use Rattle.std.specs.Fmt.{decimal}
use Rattle.zic_layouts.specs.declared.layout.Unit.{Unit}
use Rattle.zic_row_text.specs.declared.count.TheConstants.{MAX_DIGITS}
use Rattle.zic_row_text.specs.Count.{fraction_digits}
use Rattle.zic_base.specs.Number.{number}

-- The digits are this number in plain decimals, and few enough for a count of these units.
pub record IsPlainNumber (u : Unit) (digits : List ℕ) (n : ℕ) : Type 0 where
  pub says : number (MAX_DIGITS + fraction_digits u) digits ≡ Some n
  pub plain : digits ≡ decimal n
