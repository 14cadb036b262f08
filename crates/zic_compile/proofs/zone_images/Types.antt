-- The local time types of a zone's states.
use Rattle.std.proofs.Common.{◌≡◌, true, List, length, map, Some}
use Rattle.std.specs.Prelude.{ℕ, Contains, slice_get}
use Rattle.zic_base.specs.State.{Shown}
use Rattle.zic_base.proofs.Elements.{contains_got}
use Rattle.zic_lines.specs.Limits.{is_abbreviation}
use Rattle.zic_states.specs.Change as of_zone
use Rattle.zic_tzif.specs.Content.{type_state}
use Rattle.zic_table.specs.ContentOf.{before, same_state, states_of, names_of, ended, local_type}
use Rattle.zic_table.proofs.Designations.{designation_is}
use Rattle.zic_table.proofs.Firsts.{at_place}
use Rattle.zic_base.proofs.Lists.{get_mapped}
use Rattle.zic_table.proofs.NumberedChanges.{known_state}
use Rattle.zic_table.proofs.States.{state_decides}

module _ (first : Shown) (changes : List of_zone.Change) where
  abbrev states : List Shown
  states = states_of first changes

  abbrev names : List (List ℕ)
  names = names_of states

  module _ (d : of_zone.Change) (has : Contains changes d) where
    -- the state of a change stands at its number
    state_at_number : slice_get states (length (before same_state states d.state)) ≡ Some d.state
    state_at_number = at_place same_state state_decides states d.state (known_state first changes d has)

    pub is_state : Contains states d.state
    is_state = contains_got states (length (before same_state states d.state)) d.state state_at_number

    -- and so does its local time type
    pub type_at_number : slice_get (map (local_type names) states) (length (before same_state states d.state)) ≡ Some (local_type names d.state)
    type_at_number = get_mapped (local_type names) states (length (before same_state states d.state)) d.state state_at_number

  -- the local time type of a state is the state
  pub state_of_type : (state : Shown) → Contains states state → is_abbreviation state.name ≡ true → type_state (ended names) (local_type names state) ≡ state
  state_of_type state has is =
      let name = designation_is states state has is in
      λ k. record { offset = state.offset; daylight = state.daylight; name = name k }
