-- Why the commands that print what a file says fail.
use Rattle.std.specs.Prelude.{◌≡◌, ◌⊎◌, ℕ, List, Option}
use Rattle.zic_counted.specs.Counts.{Counts}
use Rattle.zic_tzif.specs.Reading.{IsFault}
use Rattle.zic_tzif.specs.declared.reason.Reason.{Reason}
use Rattle.zic_io.specs.declared.failure.Failure.{Failure}
use Rattle.zic_io.specs.declared.failure.Failure.TheVariants as failures
use Rattle.zic_io.specs.Failing.{IsFailureOfOutput}

-- why bytes don't show local time: they are no file, or memory ran out
abbrev pub IsFailureOfFile : List ℕ → Failure → Type 0
IsFailureOfFile bytes failure =
    (failure ≡ failures.Memory)
    ⊎ ((reason : Reason) × IsFault bytes reason × (failure ≡ failures.File reason))

-- why `show` and `dump` give up: the bytes are no file, and nothing is written, or this output of
-- theirs can't be written
abbrev pub IsFailureOfPrinting : {W : Type 0} → (W → Option (List ℕ)) → List ℕ → (List ℕ → Type 0)
    → Counts W → Counts W → Failure → Type 0
IsFailureOfPrinting contents bytes IsOutput old new failure =
    (IsFailureOfFile bytes failure × (new ≡ old))
    ⊎ IsFailureOfOutput contents IsOutput old new failure
