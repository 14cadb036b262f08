-- What the calls on changes of local time return. Own choice.
use Rattle.std.specs.Prelude.{◌≡◌, ℕ, ℤ, pos, ◌-ℤ◌, ◌⊎◌, List}
use Rattle.zic_posix.specs.declared.span.TheConstants.{MIN_INSTANT, MAX_INSTANT}
use Rattle.zic_tzif.specs.Content.{Content}
use Rattle.zic_dump.specs.Changes.{StaysSame}
use Rattle.zic_dump.specs.NearChanges.{IsNextChange, IsPreviousChange, AreChangesWritten}
use Rattle.pzic_zones.specs.declared.status.TheConstants.{OK, NO_SUCH}

-- The change after an instant is returned; or there is none in 64 bits, and nothing is written.
abbrev pub IsNextGiven : Content → ℤ → ℤ → ℤ → ℤ → Type 0
IsNextGiven content t status before change =
    ((status ≡ OK) × IsNextChange content t change) ⊎ ((status ≡ NO_SUCH) × StaysSame content t MAX_INSTANT × (change ≡ before))

-- The change before an instant is returned; or there is none after the least instant of 64 bits, and nothing is written.
abbrev pub IsPreviousGiven : Content → ℤ → ℤ → ℤ → ℤ → Type 0
IsPreviousGiven content t status before change =
    ((status ≡ OK) × IsPreviousChange content t change)
    ⊎ ((status ≡ NO_SUCH) × StaysSame content MIN_INSTANT (t -ℤ pos 1) × (change ≡ before))

-- The changes after one instant and up to another are returned, as many as there is room for, and how many those are.
abbrev pub AreChangesGiven : Content → ℤ → ℤ → ℤ → List ℤ → List ℤ → ℕ → Type 0
AreChangesGiven content first last status before after count = (status ≡ OK) × AreChangesWritten content first last before after count
