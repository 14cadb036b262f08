-- What slots say of the states of a zone: own choice.
use Rattle.std.specs.Prelude.{◌≡◌, ◌≢◌, ℕ, ◌*◌, ◌<◌, nat_le, ℤ, pos, ◌+ℤ◌, if◌then◌else◌, List, Some, slice_get}
use Rattle.zic_base.specs.State.{Shown}
use Rattle.zic_zones.specs.declared.slot.TheConstants.{SLOT_SECONDS, UNKNOWN}
use Rattle.zic_zones.specs.declared.slot.Slot.{Slot}
use Rattle.zic_tzif.specs.Answer.{Answers}
use Rattle.zic_tzif.specs.Content.{Content}
use Rattle.zic_tzif.specs.States.{IsStateOfNumber}

-- the number of a slot at this many seconds after its start
abbrev pub number_at : Slot → ℕ → ℕ
number_at slot second = if nat_le slot.change second then slot.after else slot.before

-- The content shows a state at the instant, which has this number by the numbers of the states.
pub record IsNumberAt (content : Content) (numbers : List ℕ) (t : ℤ) (n : ℕ) : Type 0 where
  pub number : ℕ
  pub state : Shown
  pub has : slice_get numbers number ≡ Some n
  pub of : IsStateOfNumber content number state
  pub shown : Answers content t (Some state)

-- a number is unknown, or right
abbrev pub Says : Content → List ℕ → ℤ → ℕ → Type 0
Says content numbers t n = n ≢ UNKNOWN → IsNumberAt content numbers t n

-- A slot that starts at an instant says what is right at each of its seconds, or nothing.
pub record IsRight (content : Content) (numbers : List ℕ) (start : ℤ) (slot : Slot) : Type 0 where
  pub says : (second : ℕ) → second < SLOT_SECONDS → Says content numbers (start +ℤ pos second) (number_at slot second)

-- Slots one after another, of which the first starts at an instant, say what is right, or nothing.
pub record AreRight (content : Content) (numbers : List ℕ) (base : ℤ) (slots : List Slot) : Type 0 where
  pub each : (place : ℕ) (slot : Slot) → slice_get slots place ≡ Some slot → IsRight content numbers (base +ℤ pos (place * SLOT_SECONDS)) slot
