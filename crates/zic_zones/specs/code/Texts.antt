-- Texts of states by number.
use Rattle.std.specs.Prelude.{◌≡◌, ℕ, List, Some, slice_get}
use Rattle.zic_base.specs.State.{Shown}
use Rattle.zic_tzif.specs.Content.{Content}
use Rattle.zic_tzif.specs.States.{IsStateOfNumber}
use Rattle.zic_zones.specs.States.{HasState}

-- Numbers of the texts of a zone's states, or unknown.
pub record AreNumbersOf (content : Content) (texts : List Shown) (numbers : List ℕ) : Type 0 where
  pub each : (number n : ℕ) → slice_get numbers number ≡ Some n → HasState texts n (IsStateOfNumber content number)
