-- What two files answer at an instant, as far as it is compared.
use Rattle.std.specs.Prelude.{◌≡◌, ◌≢◌, ◌&&◌, ℤ, if◌then◌else◌, [], Option, Some, None}
use Rattle.zic_base.specs.State.{Shown}
use Rattle.zic_layouts.specs.declared.compared.Compared.{Compared}
use Rattle.zic_tzif.specs.Answer.{Answers}
use Rattle.zic_tzif.specs.Content.{Content}

-- two files, and which parts of their answers are compared
pub record Pair : Type 0 where
  pub old : Content
  pub new : Content
  pub compared : Compared

abbrev pub pair : Content → Content → Compared → Pair
pair old new compared = record { old = old; new = new; compared = compared }

-- an answer as far as it is compared: a daylight flag that isn't is 0, and an abbreviation that isn't is empty
abbrev pub seen : Compared → Option Shown → Option Shown
seen compared None = None
seen compared (Some state) = Some (record {
  offset = state.offset;
  daylight = compared.daylight && state.daylight;
  name = if compared.abbreviation then state.name else [];
})

-- what the file answers at the instant is seen as this
abbrev pub IsSeenAt : Compared → Content → ℤ → Option Shown → Type 0
IsSeenAt compared content t state = (answer : Option Shown) × Answers content t answer × (state ≡ seen compared answer)

-- at the instant the old file's answer is seen as the one, and the new file's as the other
pub record AreSeenAt (pair : Pair) (t : ℤ) (old new : Option Shown) : Type 0 where
  pub of_old : IsSeenAt pair.compared pair.old t old
  pub of_new : IsSeenAt pair.compared pair.new t new

-- the two files answer differently at the instant
pub record DifferAt (pair : Pair) (t : ℤ) : Type 0 where
  pub old : Option Shown
  pub new : Option Shown
  pub are_seen : AreSeenAt pair t old new
  pub differ : old ≢ new
