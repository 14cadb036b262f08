-- Where the slot of an instant is: own choice.
use Rattle.std.specs.Prelude.{◌≡◌, ℕ, ◌*◌, ◌^◌, ◌<◌, ℤ, pos, ◌+ℤ◌}
use Rattle.zic_zones.specs.declared.slot.TheConstants.{ERAS, FIRST_BASE, SLOT_SECONDS, SLOTS}
use Rattle.zic_zones.specs.declared.slot.Place.{Place}

-- the first instant of an era
abbrev pub base_of : ℕ → ℤ
base_of era = FIRST_BASE +ℤ pos (era * 2 ^ 32)

-- the first instant of a slot of an era
abbrev pub start_of : ℕ → ℕ → ℤ
start_of era slot = base_of era +ℤ pos (slot * SLOT_SECONDS)

-- The instant lies at this place.
pub record IsPlaceOf (instant : ℤ) (place : Place) : Type 0 where
  pub era : place.era < ERAS
  pub slot : place.slot < SLOTS
  pub second : place.second < SLOT_SECONDS
  pub is : (start_of place.era place.slot +ℤ pos place.second) ≡ instant
