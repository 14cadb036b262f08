-- States at all instants that a local time may have.
use Rattle.std.specs.Prelude.{◌≡◌, ℕ, ◌+◌, ◌<◌, ◌≤◌, ℤ, ◌-ℤ◌, unsigned_abs, List, Some, IfSome, slice_get}
use Rattle.zic_base.specs.State.{Shown}
use Rattle.zic_base.specs.declared.constants.TheConstants.{FARTHEST_FILE_OFFSET}
use Rattle.zic_files.specs.File.{File}
use Rattle.zic_zones.specs.Slots.{number_at}
use Rattle.zic_zones.specs.declared.slot.TheConstants.{SLOT_SECONDS}
use Rattle.zic_zones.specs.declared.slot.Slot.{Slot}
use Rattle.zic_tzif.specs.Answer.{Answers}
use Rattle.zic_tzif.specs.Content.{Content}

-- the content answers this state at each instant within 25:59:59 of the local time
abbrev pub IsStateNear : Content → ℤ → Shown → Type 0
IsStateNear content local state = (t : ℤ) → unsigned_abs (local -ℤ t) ≤ FARTHEST_FILE_OFFSET → Answers content t (Some state)

-- the file of this number does
abbrev pub AnswersNear : List File → ℕ → ℤ → Shown → Type 0
AnswersNear files file local state = IfSome (slice_get files file) (λ f. IsStateNear f.image.content local state)

-- The slot has all seconds within 25:59:59 of this one, and this number at each of them.
pub record IsNumberNear (slot : Slot) (second n : ℕ) : Type 0 where
  pub from : FARTHEST_FILE_OFFSET ≤ second
  pub to : second + FARTHEST_FILE_OFFSET < SLOT_SECONDS
  pub is : (at : ℕ) → second ≤ at + FARTHEST_FILE_OFFSET → at ≤ second + FARTHEST_FILE_OFFSET → number_at slot at ≡ n
