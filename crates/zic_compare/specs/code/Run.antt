-- The spans up to an instant.
use Rattle.std.specs.Prelude.{◌≡◌, ◌≢◌, ◌⊎◌, ℤ, pos, ◌-ℤ◌, ◌<ℤ◌, ◌≤ℤ◌, List, [], ◌∷◌, ◌++◌, All, AllPairs, Any}
use Rattle.zic_compare.specs.Answers.{Pair, DifferAt}
use Rattle.zic_compare.specs.Differences.{HasAnswersAt, IsDifference}
use Rattle.zic_compare.specs.declared.difference.Difference.{Difference}
use Rattle.zic_posix.specs.Instants.{Includes}
use Rattle.zic_posix.specs.declared.span.Instants.{Instants}
use Rattle.zic_tzif.specs.Answer.{answered}

-- the span with its last instant at another
abbrev pub up_to : Difference → ℤ → Difference
up_to d last = record { instants = record { first = d.instants.first; last = last }; old = d.old; new = d.new }

-- two spans have the same two answers
abbrev pub HasAnswersOf : Difference → Difference → Type 0
HasAnswersOf one other = (answered one.old ≡ answered other.old) × (answered one.new ≡ answered other.new)

-- the span comes last if its two answers differ, and else is left out
abbrev pub Closes : Difference → List Difference → List Difference → Type 0
Closes run old new =
    ((answered run.old ≡ answered run.new) × (new ≡ old)) ⊎ ((answered run.old ≢ answered run.new) × (new ≡ old ++ run ∷ []))

-- The span begins within the bounds, and the two files have its two answers at each of its instants, but not right before it; or it begins
-- with the bounds.
pub record IsRun (pair : Pair) (bounds : Instants) (run : Difference) : Type 0 where
  pub some : run.instants.first ≤ℤ run.instants.last
  pub from : bounds.first ≤ℤ run.instants.first
  pub within : run.instants.first ≤ℤ bounds.last
  pub throughout : (t : ℤ) → Includes run.instants t → HasAnswersAt pair run t
  pub begins : (run.instants.first ≡ bounds.first) ⊎ (HasAnswersAt pair run (run.instants.first -ℤ pos 1) → ⊥)

-- these are just the differences before an instant
pub record AreBefore (pair : Pair) (bounds : Instants) (instant : ℤ) (before : List Difference) : Type 0 where
  pub each : All (IsDifference pair bounds) before
  pub earlier : All (λ d. d.instants.last <ℤ instant) before
  pub in_order : AllPairs (λ a b. a.instants.last <ℤ b.instants.first) before
  pub all : (t : ℤ) → bounds.first ≤ℤ t → t <ℤ instant → DifferAt pair t → Any (λ d. Includes d.instants t) before
