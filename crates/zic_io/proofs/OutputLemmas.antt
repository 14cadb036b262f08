-- Why output isn't written.
use Rattle.std.proofs.Common.{◌≡◌, ◌⊎◌, List, ℕ, inr, Option, Result, Ok, Err}
use Rattle.std.specs.Prelude.{IfErr, OnErr}
use Rattle.zic_counted.specs.Counts.{Counts}
use Rattle.zic_counted.specs.Written.{FailsWithin}
use Rattle.zic_io.specs.Failing.{IsFailureOfOutput}
use Rattle.zic_io.specs.declared.failure.Failure.{Failure}
use Rattle.zic_io.specs.declared.failure.Failure.TheVariants as failures

-- a failed write of output is the last of two reasons
pub unwritten : {T W : Type 0} (result : Result T Failure) (IsBefore : Failure → Type 0) (contents : W → Option (List ℕ)) (IsOutput : List ℕ → Type 0) (old new : Counts W) (bytes : List ℕ)
    → IsOutput bytes
    → IfErr result (λ failure. failure ≡ failures.CannotWriteOutput) → OnErr result (FailsWithin contents old new bytes)
    → IfErr result (λ failure. IsBefore failure ⊎ IsFailureOfOutput contents IsOutput old new failure)
unwritten (Ok x) IsBefore contents IsOutput old new bytes is_output is fails = tt
unwritten (Err e) IsBefore contents IsOutput old new bytes is_output is fails =
    inr (record { is = is; output = bytes; is_output = is_output; fails = fails })
