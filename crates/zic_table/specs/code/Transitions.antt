-- The transitions of a zone, as far as the code has come.
use Rattle.std.specs.Prelude.{◌≡◌, ◌<◌, ℕ, List, length, map, take, All, FitsSigned}
use Rattle.std.specs.Int.{w64}
use Rattle.zic_base.specs.State.{Shown}
use Rattle.zic_states.specs.Change as of_zone
use Rattle.zic_states.specs.Zone.{Zone}
use Rattle.zic_table.specs.ContentOf.{states_of, transition}
use Rattle.zic_tzif.specs.declared.content.Change.{Change}
use Rattle.zic_tzif.specs.declared.content.TheConstants.{MAX_TYPES}

-- the states up to this number of changes, and the transitions of these changes
pub record AreTransitionsTo (zone : Zone) (count : ℕ) (states : List Shown) (transitions : List Change) : Type 0 where
  pub first : Shown
  pub changes : List of_zone.Change
  pub are_changes : of_zone.AreChanges zone changes
  pub is_first : of_zone.IsFirstState zone first
  pub are_states : states ≡ states_of first (take count changes)
  pub are_transitions : transitions ≡ map (transition states) (take count changes)
  pub fit : All (λ c. FitsSigned w64 c.instant) transitions

-- the states of the zone, and its transitions
pub record AreTransitions (zone : Zone) (states : List Shown) (transitions : List Change) : Type 0 where
  pub first : Shown
  pub changes : List of_zone.Change
  pub are_changes : of_zone.AreChanges zone changes
  pub is_first : of_zone.IsFirstState zone first
  pub are_states : states ≡ states_of first changes
  pub are_transitions : transitions ≡ map (transition states) changes
  pub fit : All (λ c. FitsSigned w64 c.instant) transitions

-- the zone has more states than a table has local time types
pub record HasManyTypes (zone : Zone) : Type 0 where
  pub first : Shown
  pub changes : List of_zone.Change
  pub are_changes : of_zone.AreChanges zone changes
  pub is_first : of_zone.IsFirstState zone first
  pub many : MAX_TYPES < length (states_of first changes)
