-- Values by number.
use Rattle.std.specs.Prelude.{◌≡◌, ◌≢◌, ℕ, List, Some, slice_get}
use Rattle.zic_zones.specs.declared.slot.TheConstants.{UNKNOWN}

-- A list came of another by additions at the end: what has a number keeps it.
pub record Keeps {X : Type 0} (old new : List X) : Type 0 where
  pub still : (i : ℕ) (x : X) → slice_get old i ≡ Some x → slice_get new i ≡ Some x

-- a number says something, and it is that of this value
abbrev pub IsValue : {X : Type 0} → List X → ℕ → X → Type 0
IsValue values n value = (n ≢ UNKNOWN) × (slice_get values n ≡ Some value)
