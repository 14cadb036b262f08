-- The spans of instants at which each of two files gives one answer, and the two differ: own choice.
use Rattle.std.specs.Prelude.{◌≡◌, ◌≢◌, ◌⊎◌, ℤ, pos, ◌+ℤ◌, ◌-ℤ◌, ◌<ℤ◌, ◌≤ℤ◌, List, All, AllPairs, Any}
use Rattle.zic_compare.specs.Answers.{Pair, AreSeenAt, DifferAt}
use Rattle.zic_compare.specs.declared.difference.Difference.{Difference}
use Rattle.zic_posix.specs.Instants.{Includes}
use Rattle.zic_posix.specs.declared.span.Instants.{Instants}
use Rattle.zic_tzif.specs.Answer.{answered}

-- the two answers of a span, as they are seen at an instant
abbrev pub HasAnswersAt : Pair → Difference → ℤ → Type 0
HasAnswersAt pair d t = AreSeenAt pair t (answered d.old) (answered d.new)

-- A longest span within the bounds: at each of its instants the files answer these two, which differ, and right before it and right after it,
-- as far as the bounds reach, they don't.
pub record IsDifference (pair : Pair) (bounds : Instants) (d : Difference) : Type 0 where
  pub some : d.instants.first ≤ℤ d.instants.last
  pub from : bounds.first ≤ℤ d.instants.first
  pub to : d.instants.last ≤ℤ bounds.last
  pub differ : answered d.old ≢ answered d.new
  pub throughout : (t : ℤ) → Includes d.instants t → HasAnswersAt pair d t
  pub begins : (d.instants.first ≡ bounds.first) ⊎ (HasAnswersAt pair d (d.instants.first -ℤ pos 1) → ⊥)
  pub ends : (d.instants.last ≡ bounds.last) ⊎ (HasAnswersAt pair d (d.instants.last +ℤ pos 1) → ⊥)

-- These are just the longest spans within the bounds, in order: each instant at which the files answer differently is in one.
pub record AreDifferences (pair : Pair) (bounds : Instants) (differences : List Difference) : Type 0 where
  pub each : All (IsDifference pair bounds) differences
  pub in_order : AllPairs (λ a b. a.instants.last <ℤ b.instants.first) differences
  pub all : (t : ℤ) → Includes bounds t → DifferAt pair t → Any (λ d. Includes d.instants t) differences
