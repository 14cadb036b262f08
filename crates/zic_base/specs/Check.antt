-- Checks in order, of which the first that fails decides.
use Rattle.std.specs.Prelude.{Bool, List, [], ◌∷◌, Option, Some, None, if◌then◌else◌}

-- a check, and the reason to refuse what fails it
pub record Check (Reason : Type 0) : Type 0 where
  pub passes : Bool
  pub reason : Reason

-- a check that passes just where the test is true
abbrev pub check : {Reason : Type 0} → Bool → Reason → Check Reason
check passes reason = record { passes = passes; reason = reason }

-- the reason of the first check that fails
abbrev pub first_failed : {Reason : Type 0} → List (Check Reason) → Option Reason
first_failed [] = None
first_failed (c ∷ cs) = if c.passes then first_failed cs else Some c.reason
