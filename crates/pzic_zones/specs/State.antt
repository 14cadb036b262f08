-- What C sees of local time. Own choice.
use Rattle.std.specs.Prelude.{◌≡◌, ℕ, ◌-◌, List, [], ◌++◌, take, length, replicate, pos, Bool, true, false, Option, Some, None}
use Rattle.zic_base.specs.State.{Shown}
use Rattle.pzic_zones.specs.declared.state.State.{State}

-- the daylight flag as a number
abbrev pub flag : Bool → ℕ
flag true = 1
flag false = 0

-- at most 16 bytes, and NULs after them up to 17
abbrev pub padded : List ℕ → List ℕ
padded name = name ++ replicate (17 - length name) 0

-- C's state is this one: the offset, the flag, the length of the abbreviation, and the first 16 bytes of that
pub record IsStateOf (shown : Shown) (state : State) : Type 0 where
  pub offset : state.offset ≡ shown.offset
  pub daylight : state.daylight ≡ flag shown.daylight
  pub name_length : state.name_length ≡ length shown.name
  pub name : state.name ≡ padded (take 16 shown.name)

-- the state that stands for an answer: the answer's own, and universal time without an abbreviation where local time is left open
abbrev pub state_of : Option Shown → Shown
state_of (Some shown) = shown
state_of None = record { offset = pos 0; daylight = false; name = [] }
