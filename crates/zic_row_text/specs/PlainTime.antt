-- Times in plain decimals.
use Rattle.std.specs.Prelude.{◌≡◌, ℕ, ℤ, List, Some}
use Rattle.std.specs.Fmt.{signed_decimal}
use Rattle.zic_layouts.specs.declared.layout.Unit.{Unit}
use Rattle.zic_row_text.specs.declared.row_time.RowTime.{RowTime}
use Rattle.zic_row_text.specs.Count.{count_of, fraction_of, second_of}
use Rattle.zic_row_text.specs.Instant.{IsRowInstant}

-- The field has in plain decimals a count of these units that a row may have, and the time is its whole second and how many units it lies after that.
pub record IsPlainTime (u : Unit) (field : List ℕ) (time : RowTime) : Type 0 where
  pub count : ℤ
  pub says : count_of u field ≡ Some count
  pub plain : field ≡ signed_decimal count
  pub may : IsRowInstant (second_of u count)
  pub second : time.second ≡ second_of u count
  pub fraction : time.fraction ≡ fraction_of u count
  pub unit : time.unit ≡ u
