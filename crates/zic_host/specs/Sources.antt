-- Which texts are those of OLD, and the fault of a text among those of both releases.
use Rattle.std.specs.Prelude.{◌+◌, ◌-◌, ◌^◌, ℕ, List, take, drop, min}
use Rattle.zic_io.specs.declared.failure.Failure.{Failure}
use Rattle.zic_io.specs.declared.failure.Failure.TheVariants as failures

-- the texts of OLD are this many, and were read first
abbrev pub old_texts : {T : Type 0} → ℕ → List T → List T
old_texts count texts = take count texts

-- all others are those of the release that is compared with it
abbrev pub new_texts : {T : Type 0} → ℕ → List T → List T
new_texts count texts = drop count texts

-- the number of a text of a release before which this many others stand, as far as a `u64` counts
abbrev pub number_after : ℕ → ℕ → ℕ
number_after before text = min (before + text) (2 ^ 64 - 1)

-- a fault at a line of a release has the number of its text among the texts of both: the only text of a release is its first
abbrev pub fault_in : ℕ → Failure → Failure
fault_in before (failures.Line line kind) = failures.TextLine (number_after before 1) line kind
fault_in before (failures.TextLine text line kind) = failures.TextLine (number_after before text) line kind
fault_in before failure = failure
