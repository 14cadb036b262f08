-- What a run reports: the list that was not written whole is the one that `finish` gave, or none where the lists stay as they are.
use Rattle.std.proofs.Common.{◌≡◌, ℕ, List, Option, Result, subst, arith}
use Rattle.std.proofs.lemmas.Grind.{common_steps}
use Rattle.zic_io.specs.declared.failure.Failure.{Failure}
use Rattle.zic_converting.specs.Ending.{behind_of, ended, IsReport}
use Rattle.zic_converting.specs.declared.ending.Faults.{Faults}
use Rattle.zic_converting.proofs.conversion.end.Goals as goal
use Rattle.zic_converting.proofs.conversion.end.Goals.{then-keeps_lists, else-keeps_lists}

-- what is reported of an end and of a path is reported of what equals them
along : (f g : Faults) (converted : Result ℕ Failure) (end : Result (Unit {0}) Failure) (p q : Option (List ℕ)) (reported : Result (Unit {0}) Failure)
    → f ≡ g → end ≡ ended f converted → p ≡ q → IsReport end p reported → IsReport (ended g converted) q reported
along f g converted end p q reported same ends path h =
    let P : Faults → Type 0 = λ x. IsReport (ended x converted) q reported in
    let Q : Result (Unit {0}) Failure → Type 0 = λ x. IsReport x q reported in
    let R : Option (List ℕ) → Type 0 = λ x. IsReport end x reported in
    subst P same (subst Q ends (subst R path h))

-- and so is what is told behind it
behind_along : (f g : Faults) (converted : Result ℕ Failure) (end : Result (Unit {0}) Failure) (p q : Option (List ℕ)) (behind : Option Failure)
    → f ≡ g → end ≡ ended f converted → p ≡ q → behind ≡ behind_of p end → behind ≡ behind_of q (ended g converted)
behind_along f g converted end p q behind same ends path h =
    let P : Faults → Type 0 = λ x. behind ≡ behind_of q (ended x converted) in
    let Q : Result (Unit {0}) Failure → Type 0 = λ x. behind ≡ behind_of q x in
    let R : Option (List ℕ) → Type 0 = λ x. behind ≡ behind_of x end in
    subst P same (subst Q ends (subst R path h))

pub returns-clause-reported : goal.returns-clause-reported
returns-clause-reported g c = (
  c.if-keeps_lists.unwritten,
  elim c.if-keeps_lists.branch [ then-keeps_lists w ↦ λ _. w.unwritten-is | else-keeps_lists w ↦ grind (arith, common_steps) ],
  along _ _ _ _ _ _ _ c.faults-faults.ensures c.ended-ended.ensures c.path_of.ensures c.report.ensures.reported,
  behind_along _ _ _ _ _ _ _ c.faults-faults.ensures c.ended-ended.ensures c.path_of.ensures c.report.ensures.behind,
)
