-- Why sources and files aren't read, why output isn't written, and the failures of this.
use Rattle.std.specs.Prelude.{◌≡◌, ◌≢◌, ◌==◌, ◌⊎◌, ℕ, List, ◌∷◌, ◌++◌, if◌then◌else◌, string_bytes, Option, All}
use Rattle.zic_base.specs.declared.fault.Fault.{Fault}
use Rattle.zic_base.specs.declared.stops.RunStop.{RunStop}
use Rattle.zic_base.specs.declared.stops.RunStop.TheVariants as stops
use Rattle.zic_base.specs.declared.constants.TheConstants.{STANDARD_INPUT}
use Rattle.zic_counted.specs.Counts.{Counts, HasFailedSince, HasTakenAbove}
use Rattle.zic_counted.specs.Written.{FailsWithin}
use Rattle.zic_tzif.specs.declared.reason.ReadStop.{ReadStop}
use Rattle.zic_tzif.specs.declared.reason.ReadStop.TheVariants as reading
use Rattle.zic_io.specs.declared.failure.Failure.{Failure}
use Rattle.zic_io.specs.declared.failure.Failure.TheVariants as failures
use Rattle.zic_io.specs.declared.input.TheConstants.{MAX_SOURCE}
use Rattle.zic_io.specs.Sources.{AreTextsOf}

-- the failure for a fault of a source of this number of texts: with one, no text is named
abbrev pub fault_failure : Fault → ℕ → Failure
fault_failure fault texts =
    if texts == 1 then failures.Line fault.place.line fault.kind
    else failures.TextLine fault.place.text fault.place.line fault.kind

-- the failure for the end of a run over a source of this number of texts
abbrev pub run_failure : RunStop → ℕ → Failure
run_failure (stops.Source fault) texts = fault_failure fault texts
run_failure (stops.Row row kind) texts = failures.Row row kind
run_failure stops.ReadFailed texts = failures.CannotReadColumn
run_failure stops.WriteFailed texts = failures.CannotWriteRows
run_failure stops.ColumnTooLong texts = failures.ColumnTooLong
run_failure stops.Memory texts = failures.Memory
run_failure stops.NoThread texts = failures.NoThread
run_failure stops.LogFailed texts = failures.CannotWriteList

-- the failure for bytes that are no file
abbrev pub read_failure : ReadStop → Failure
read_failure (reading.Bad reason) = failures.File reason
read_failure reading.Memory = failures.Memory

-- this path can't be read
abbrev pub IsCannotRead : List ℕ → Failure → Type 0
IsCannotRead path (failures.CannotRead named) = string_bytes named ≡ path
IsCannotRead path _ = ⊥

-- no file has this name
abbrev pub IsUnknownZone : List ℕ → Failure → Type 0
IsUnknownZone name (failures.UnknownZone given) = string_bytes given ≡ name
IsUnknownZone name _ = ⊥

-- why what a path names isn't read: for this reason, or memory ran out
abbrev pub IsFailureOfReading : List ℕ → Type 0 → Failure → Type 0
IsFailureOfReading path reason failure =
    (failure ≡ failures.Memory) ⊎ (IsCannotRead path failure × reason)

-- why a text of a source isn't read: a failure of its reader was counted, or the reader gave too many bytes
abbrev pub IsFailureOfText : {R : Type 0} → List ℕ → Counts R → Counts R → Failure → Type 0
IsFailureOfText path old new =
    IsFailureOfReading path (HasFailedSince new old.failures ⊎ HasTakenAbove MAX_SOURCE old new)

-- why a file isn't read: for any reason, or memory ran out
abbrev pub IsFailureOfPath : List ℕ → Failure → Type 0
IsFailureOfPath path failure = (failure ≡ failures.Memory) ⊎ IsCannotRead path failure

-- why the bytes of a file aren't read: a failure of their reader was counted, or memory ran out
abbrev pub IsFailureOfBytes : {R : Type 0} → List ℕ → Counts R → Counts R → Failure → Type 0
IsFailureOfBytes path old new = IsFailureOfReading path (HasFailedSince new old.failures)

-- why such output isn't written: a failure was counted, and by then a part of it was written
pub record IsFailureOfOutput {W : Type 0} (contents : W → Option (List ℕ))
    (IsOutput : List ℕ → Type 0) (old new : Counts W) (failure : Failure) : Type 0 where
  pub is : failure ≡ failures.CannotWriteOutput
  pub output : List ℕ
  pub is_output : IsOutput output
  pub fails : FailsWithin contents old new output

-- this path can't be written
abbrev pub IsCannotWrite : List ℕ → Failure → Type 0
IsCannotWrite path (failures.CannotWrite named) = string_bytes named ≡ path
IsCannotWrite path _ = ⊥

-- The text of one of these words can't be read, and the texts of all before it are read. If the
-- word is the first for standard input, a failure of its reader was counted, or it gave too many bytes.
-- Why a file can't be read is known to no contract.
pub record IsUnread {I : Type 0} (words : List (List ℕ)) (input : Option (List ℕ))
    (old new : Counts I) (failure : Failure) : Type 0 where
  pub before : List (List ℕ)
  pub word : List ℕ
  pub after : List (List ℕ)
  pub parts : words ≡ before ++ word ∷ after
  pub texts : List (List ℕ)
  pub are_texts : AreTextsOf before input texts
  pub unread : IsCannotRead word failure
  pub reason : word ≡ STANDARD_INPUT.now → All (λ other. other ≢ STANDARD_INPUT.now) before
      → HasFailedSince new old.failures ⊎ HasTakenAbove MAX_SOURCE old new

-- why not all texts that words name are read: one can't be, or memory ran out
abbrev pub IsFailureOfSources : {I : Type 0} → List (List ℕ) → Option (List ℕ) → Counts I
    → Counts I → Failure → Type 0
IsFailureOfSources words input old new failure =
    (failure ≡ failures.Memory) ⊎ IsUnread words input old new failure
