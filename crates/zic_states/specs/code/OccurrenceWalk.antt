-- The walk through a set's occurrences.
use Rattle.std.specs.Prelude.{◌≡◌, ℕ, ℤ, ◌<ℤ◌, List, length, slice_get, Some, All, Any, AllPairs}
use Rattle.zic_states.specs.declared.occurrence.TimedOccurrence.{TimedOccurrence}
use Rattle.zic_states.specs.Occurrence.{RuleSet, Occurrence, IsOccurrence, AreSame, nominal}
use Rattle.zic_states.specs.Listing.{IsTimedOf}

-- an occurrence whose nominal second lies before the bound
pub record IsBefore (set : RuleSet) (bound : ℤ) (o : Occurrence) : Type 0 where
  pub is : IsOccurrence set o
  pub before : nominal o <ℤ bound

-- all occurrences whose nominal seconds lie before the bound, in the order of these seconds
pub record AreInOrderBefore (set : RuleSet) (bound : ℤ) (os : List Occurrence) : Type 0 where
  pub each : All (IsBefore set bound) os
  pub all : (o : Occurrence) → IsBefore set bound o → Any (AreSame o) os
  pub rising : AllPairs (λ a b. nominal a <ℤ nominal b) os

-- the same with their instants, which rise too
pub record AreWalked (set : RuleSet) (offset bound : ℤ) (os : List Occurrence) (xs : List TimedOccurrence) : Type 0 where
  pub in_order : AreInOrderBefore set bound os
  pub count : length xs ≡ length os
  pub each : (k : ℕ) (x : TimedOccurrence) (o : Occurrence) → slice_get xs k ≡ Some x → slice_get os k ≡ Some o → IsTimedOf set offset x o
  pub rising : AllPairs (λ a b. a.instant <ℤ b.instant) xs
