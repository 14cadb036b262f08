-- Occurrences that the zones of a source share.
use Rattle.std.specs.Prelude.{◌≡◌, ℕ, ◌+◌, ◌≤◌, pos, List, Option, Some, slice_get}
use Rattle.zic_lines.specs.declared.rule_line.Rule.{Rule}
use Rattle.zic_source.specs.Sound.{IsWithinDay}
use Rattle.zic_states.specs.declared.occurrence.Listing.{Listing}
use Rattle.zic_states.specs.declared.occurrence.TimedListing.{TimedListing}
use Rattle.zic_states.specs.Occurrence.{RuleSet, year_second}
use Rattle.zic_states.specs.Order.{IsInOrder}
use Rattle.zic_states.specs.Listing.{IsLastNamed, AreOccurrencesBefore}
use Rattle.zic_states.specs.code.Apart.{AreEnoughYears}
use Rattle.zic_states.specs.code.Nominals.{AreNominals, NeverFalls}

-- all occurrences of the set before a year, in the order of their nominal seconds, and through enough years for the order of the set
pub record IsListing (set : RuleSet) (listing : Listing) : Type 0 where
  pub all : AreNominals set (year_second (pos listing.last)) listing.nominals.items
  pub sorted : NeverFalls listing.nominals.items
  pub named : ℕ
  pub is_named : IsLastNamed set named
  pub years : ℕ
  pub enough : AreEnoughYears set years
  pub reaches : named + years ≤ listing.last

-- all occurrences before a year with their instants, on lines of one standard offset, on which the set is in order
pub record IsTimedListing (set : RuleSet) (timed : TimedListing) : Type 0 where
  pub within : IsWithinDay timed.offset
  pub order : IsInOrder set timed.offset
  pub all : AreOccurrencesBefore set timed.offset (year_second (pos timed.last)) timed.occurrences.items

-- a list of the set of the rule that has this number
abbrev pub IsListingOf : List Rule → ℕ → Listing → Type 0
IsListingOf rules number listing =
    (rule : Rule) → slice_get rules number ≡ Some rule → IsListing (record { rules = rules; name = rule.name }) listing

-- the same with instants
abbrev pub IsTimedListingOf : List Rule → ℕ → TimedListing → Type 0
IsTimedListingOf rules number timed =
    (rule : Rule) → slice_get rules number ≡ Some rule → IsTimedListing (record { rules = rules; name = rule.name }) timed

-- Each list that is there belongs to the set of the rule that has its number.
abbrev pub AreListings : List Rule → List (Option Listing) → Type 0
AreListings rules listings = (number : ℕ) (listing : Listing) → slice_get listings number ≡ Some (Some listing) → IsListingOf rules number listing

-- the same with instants
abbrev pub AreTimedListings : List Rule → List (Option TimedListing) → Type 0
AreTimedListings rules all = (number : ℕ) (timed : TimedListing) → slice_get all number ≡ Some (Some timed) → IsTimedListingOf rules number timed
