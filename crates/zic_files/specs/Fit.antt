-- Files that rows can be made of, and why bytes are no such file: own choice.
use Rattle.std.specs.Prelude.{◌≡◌, ◌≢◌, ℕ, List, []}
use Rattle.zic_base.specs.State.{Shown}
use Rattle.zic_lines.specs.Limits.{IsWithinLimits}
use Rattle.zic_tzif.specs.Content.{Content}
use Rattle.zic_tzif.specs.Reading.{IsFile, IsFault, ReadNeedsMemory}
use Rattle.zic_tzif.specs.States.{IsStateOfNumber}
use Rattle.zic_tzif.specs.declared.reason.ReadStop.{ReadStop}
use Rattle.zic_tzif.specs.declared.reason.ReadStop.TheVariants as stop
use Rattle.zic_files.specs.declared.image.Unfit.{Unfit}
use Rattle.zic_files.specs.declared.image.Unfit.TheVariants as unfit

-- each state of the content is within 24:00:00 of UT, under an abbreviation within its limits
abbrev pub AreWithinLimits : Content → Type 0
AreWithinLimits content = (number : ℕ) (state : Shown) → IsStateOfNumber content number state → IsWithinLimits state

-- some state of the content is outside these limits
abbrev pub HasStateOutside : Content → Type 0
HasStateOutside content = (number : ℕ) × (state : Shown) × IsStateOfNumber content number state × (IsWithinLimits state → ⊥)

-- rows can be made of the content: its TZ string isn't empty, and its states are within the limits
pub record IsFit (content : Content) : Type 0 where
  pub footer : content.text ≢ []
  pub states : AreWithinLimits content

-- rows can be made of the bytes: they are a file of such a content
abbrev pub AreFit : List ℕ → Type 0
AreFit octets = (content : Content) × IsFile octets content × IsFit content

-- why bytes are unfit: the first check of a reader that they fail; or they are a file whose TZ string is empty; or one with a
-- TZ string, and a state outside the limits. Memory runs out only where a reader may need some.
abbrev pub IsUnfit : List ℕ → Unfit → Type 0
IsUnfit octets (unfit.Bad reason) = IsFault octets reason
IsUnfit octets unfit.NoFooter = (content : Content) × IsFile octets content × (content.text ≡ [])
IsUnfit octets unfit.OutsideLimits = (content : Content) × IsFile octets content × (content.text ≢ []) × HasStateOutside content
IsUnfit octets unfit.Memory = ReadNeedsMemory octets

-- what a reader's refusal becomes: the same refusal, or out of memory
abbrev pub IsUnfitFor : ReadStop → Unfit → Type 0
IsUnfitFor (stop.Bad reason) error = error ≡ unfit.Bad reason
IsUnfitFor stop.Memory error = error ≡ unfit.Memory
