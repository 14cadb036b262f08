-- What the bytes of a file come to.
use Rattle.std.proofs.Common.{◌≡◌, ◌⊎◌, ℕ, List, inl, inr, refl}
use Rattle.std.specs.Prelude.{IfSome}
use Rattle.zic_tzif.specs.Reading.{IsFault, reason_of}
use Rattle.zic_tzif.specs.declared.reason.ReadStop.{ReadStop}
use Rattle.zic_tzif.specs.declared.reason.ReadStop.TheVariants as stop
use Rattle.zic_tzif.specs.declared.reason.Reason.{Reason}
use Rattle.zic_io.specs.Failing.{read_failure}
use Rattle.zic_io.specs.declared.failure.Failure.TheVariants as failures

-- the failure tells the fault of the bytes, or want of memory
pub read_stop : (bytes : List ℕ) (e : ReadStop) → IfSome (reason_of e) (IsFault bytes)
    → (read_failure e ≡ failures.Memory) ⊎ ((reason : Reason) × IsFault bytes reason × (read_failure e ≡ failures.File reason))
read_stop bytes (stop.Bad reason) fault = inr (reason, fault, refl)
read_stop bytes stop.Memory fault = inl refl
