-- Tables of slots.
use Rattle.std.specs.Prelude.{◌≡◌, ◌<◌, ◌+◌, ◌*◌, ℕ, ℤ, pos, ◌+ℤ◌, List, Option, Some, None, length, slice_get, slice_index_or}
use Rattle.zic_base.specs.State.{Shown}
use Rattle.zic_zones.specs.Places.{base_of}
use Rattle.zic_zones.specs.Slots.{IsRight, number_at}
use Rattle.zic_zones.specs.declared.slot.TheConstants.{SLOT_SECONDS, SLOTS}
use Rattle.zic_zones.specs.declared.slot.Slot.{Slot}
use Rattle.zic_tzif.specs.Content.{Content}
use Rattle.zic_zones.specs.States.{HasState}

-- the slot of a number
abbrev pub slot_of : List Slot → ℕ → Slot
slot_of slots n = slice_index_or slots n (record { change = 0; before = 0; after = 0 })

-- Each of the numbers is that of a slot.
pub record HaveSlots (slots : List Slot) (numbers : List ℕ) : Type 0 where
  pub each : (i n : ℕ) → slice_get numbers i ≡ Some n → (slot : Slot) × (slice_get slots n ≡ Some slot)

-- These are the numbers of the slots of a table, one after another.
pub record AreNumbersOfSlots (slots : List Slot) (numbers : List ℕ) (table : List Slot) : Type 0 where
  pub long : length numbers ≡ length table
  pub each : (i n : ℕ) → slice_get numbers i ≡ Some n → (slot : Slot) × (slice_get slots n ≡ Some slot) × (slice_get table i ≡ Some slot)

-- each slot of the table that begins there is one of which this holds, with its first instant
abbrev pub IsTableOf : List Slot → ℤ → ℕ → (ℤ → Slot → Type 0) → Type 0
IsTableOf slots base start holds =
    (place : ℕ) → place < SLOTS → (slot : Slot) × (slice_get slots (start + place) ≡ Some slot) × holds (base +ℤ pos (place * SLOT_SECONDS)) slot

-- A table of the numbers that a zone's states have, from an instant on.
pub record HasTable (content : Content) (numbers : List ℕ) (slots : List Slot) (base : ℤ) (start : ℕ) : Type 0 where
  pub is : IsTableOf slots base start (IsRight content numbers)

-- Where the tables of eras begin, of those that have one.
pub record HaveTables (content : Content) (numbers : List ℕ) (slots : List Slot) (starts : List (Option ℕ)) : Type 0 where
  pub each : (era start : ℕ) → slice_index_or starts era None ≡ Some start → HasTable content numbers slots (base_of era) start

-- the numbers of a slot, from its first instant on, are those of texts of states at the instants
abbrev pub HasTexts : List Shown → (ℤ → Shown → Type 0) → ℤ → Slot → Type 0
HasTexts texts at from slot = (second : ℕ) → second < SLOT_SECONDS → HasState texts (number_at slot second) (at (from +ℤ pos second))

-- A table of texts of states at instants.
pub record IsTable (texts : List Shown) (slots : List Slot) (at : ℤ → Shown → Type 0) (base : ℤ) (start : ℕ) : Type 0 where
  pub is : IsTableOf slots base start (HasTexts texts at)
