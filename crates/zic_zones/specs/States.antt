-- The states that files show, by number: own choice.
use Rattle.std.specs.Prelude.{◌≡◌, ◌≢◌, ℕ, List, Some, slice_get}
use Rattle.zic_base.specs.State.{Shown}
use Rattle.zic_files.specs.File.{File}
use Rattle.zic_zones.specs.declared.slot.TheConstants.{UNKNOWN}

-- some files, and states by number
pub record NumberedStates : Type 0 where
  pub files : List File
  pub states : List Shown

-- a number is unknown, or that of a state of which this holds
abbrev pub HasState : List Shown → ℕ → (Shown → Type 0) → Type 0
HasState states n holds = n ≢ UNKNOWN → (state : Shown) × (slice_get states n ≡ Some state) × holds state
