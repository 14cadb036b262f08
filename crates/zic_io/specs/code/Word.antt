-- The text that one word names.
use Rattle.std.specs.Prelude.{◌≡◌, ◌⊎◌, ℕ, List}
use Rattle.zic_base.specs.declared.constants.TheConstants.{STANDARD_INPUT}
use Rattle.zic_counted.specs.Counts.{Counts, HasFailedSince, HasTakenAbove}
use Rattle.zic_io.specs.declared.failure.Failure.{Failure}
use Rattle.zic_io.specs.declared.input.TheConstants.{MAX_SOURCE}
use Rattle.zic_io.specs.Failing.{IsFailureOfReading}

-- Why the text that a word names isn't read. Of standard input the reason is known; of a file none
-- is known, nor of its bytes.
abbrev pub IsFailureOfWord : {R : Type 0} → List ℕ → Counts R → Counts R → Failure → Type 0
IsFailureOfWord word old new =
    IsFailureOfReading word (word ≡ STANDARD_INPUT.now
    → HasFailedSince new old.failures ⊎ HasTakenAbove MAX_SOURCE old new)
