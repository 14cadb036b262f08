-- The cells of a column, by a zone. Own choice.
use Rattle.std.specs.Prelude.{◌≡◌, ℕ, ℤ, ◌⊎◌, List, length, Option, Some, None}
use Rattle.std.specs.List.{AllZip}
use Rattle.zic_base.specs.State.{Shown}
use Rattle.zic_tzif.specs.Content.{Content}
use Rattle.zic_tzif.specs.Answer.{Answers}
use Rattle.pzic_zones.specs.State.{flag, state_of}
use Rattle.pzic_zones.specs.declared.status.TheConstants.{OK, LENGTHS}

-- the flags of an answer: 1 is daylight saving time, and 2 that local time is left open
abbrev pub flags_of : Option Shown → ℕ
flags_of (Some shown) = flag shown.daylight
flags_of None = 2

-- the offset is the one that the file of this content answers at an instant, or 0 where it leaves local time open
abbrev pub IsOffsetAt : Content → ℤ → ℤ → Type 0
IsOffsetAt content t offset = (answer : Option Shown) × Answers content t answer × (offset ≡ (state_of answer).offset)

-- the flags are those of what the file answers at an instant
abbrev pub AreFlagsAt : Content → ℤ → ℕ → Type 0
AreFlagsAt content t flags = (answer : Option Shown) × Answers content t answer × (flags ≡ flags_of answer)

-- The lists have as many items.
abbrev pub AreAsLong : List ℤ → List ℤ → List ℕ → Type 0
AreAsLong instants offsets flags = (length offsets ≡ length instants) × (length flags ≡ length instants)

-- each offset and each flag is what the file answers at the instant of its place
pub record AreAnswersAt (content : Content) (instants : List ℤ) (offsets : List ℤ) (flags : List ℕ) : Type 0 where
  pub given_offsets : AllZip (IsOffsetAt content) instants offsets
  pub given_flags : AllZip (AreFlagsAt content) instants flags

-- The column is written; or its arrays differ in length, and stay as they were.
abbrev pub AreOffsetsGiven : Content → List ℤ → ℤ → List ℤ → List ℕ → List ℤ → List ℕ → Type 0
AreOffsetsGiven content instants status offsets_before flags_before offsets flags =
    ((status ≡ OK) × AreAnswersAt content instants offsets flags)
    ⊎ ((status ≡ LENGTHS) × (AreAsLong instants offsets flags → ⊥) × (offsets ≡ offsets_before) × (flags ≡ flags_before))
