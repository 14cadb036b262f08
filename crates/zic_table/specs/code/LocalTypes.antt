-- Local time types of states, as far as the code has come.
use Rattle.std.specs.Prelude.{◌≡◌, ◌<◌, ◌≤◌, ℕ, Some, false, List, length, map, take, slice_get}
use Rattle.std.specs.List.{list_any}
use Rattle.std.specs.Str.{bytes_eq}
use Rattle.zic_base.specs.State.{Shown}
use Rattle.zic_table.specs.ContentOf.{names_of, ended, local_type}
use Rattle.zic_tzif.specs.declared.content.LocalType.{LocalType}
use Rattle.zic_tzif.specs.declared.content.TheConstants.{MAX_CHARACTERS}

-- the local time types of these states, and the bytes of their designations
pub record AreLocalTypes (states : List Shown) (types : List LocalType) (names : List ℕ) : Type 0 where
  pub are_types : types ≡ map (local_type (names_of states)) states
  pub are_names : names ≡ ended (names_of states)
  pub fit : length names ≤ MAX_CHARACTERS

-- the designations of these states have more bytes than those of a table
abbrev pub HasManyCharacters : List Shown → Type 0
HasManyCharacters states = MAX_CHARACTERS < length (ended (names_of states))

-- none of the first states, of this number, has the name
abbrev pub HasNoName : List Shown → ℕ → List ℕ → Type 0
HasNoName states count name = list_any (λ s. bytes_eq s.name name) (take count states) ≡ false

-- this is the place of the type of a state that has the name
pub record IsPlaceOf (states : List Shown) (types : List LocalType) (name : List ℕ) (place : ℕ) : Type 0 where
  pub number : ℕ
  pub state : Shown
  pub its_type : LocalType
  pub is_state : slice_get states number ≡ Some state
  pub is_type : slice_get types number ≡ Some its_type
  pub named : state.name ≡ name
  pub is_place : its_type.place ≡ place
