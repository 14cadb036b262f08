-- How the code finds the number of a state; no public contract cites it.
use Rattle.std.specs.Prelude.{◌≡◌, ◌≤◌, ℕ, Bool, ◌&&◌, if◌then◌else◌, List, Option, Some, None, length}
use Rattle.std.specs.Bool.{beq}
use Rattle.std.specs.List.{list_any}
use Rattle.std.specs.Ordering.{int_eq}
use Rattle.std.specs.Str.{bytes_eq}
use Rattle.std.specs.HashMap.{HashMap, get}
use Rattle.zic_base.specs.State.{Shown, shown}
use Rattle.zic_base.specs.declared.state.State.{State}
use Rattle.zic_table.specs.ContentOf.{before, same_state}
use Rattle.zic_tzif.specs.declared.content.TheConstants.{MAX_TYPES}

-- the two states are one, as keys are compared
abbrev pub same_key : State → State → Bool
same_key a b = int_eq a.offset b.offset && (beq a.daylight b.daylight && bytes_eq a.name.now b.name.now)

-- the number of a state, if it is one of these
abbrev pub number_of : List Shown → Shown → Option ℕ
number_of states state = if list_any (λ s. same_state s state) states then Some (length (before same_state states state)) else None

-- each of the states has its number
pub record AreNumbers {S : Type 0} (states : List Shown) (numbers : HashMap State ℕ S) : Type 0 where
  pub fit : length states ≤ MAX_TYPES
  pub each : (key : State) → get same_key numbers key ≡ number_of states (shown key)
