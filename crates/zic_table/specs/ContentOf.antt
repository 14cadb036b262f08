-- The content of a zone's file. Own choice: local time types and designations stand once each, in the order of their first use.
use Rattle.std.specs.Prelude.{◌≡◌, ℕ, Bool, ◌&&◌, not, ◌≤◌, nat_le, List, [], ◌∷◌, ◌++◌, map, filter, length, take_while, None}
use Rattle.std.specs.List.{flat_map}
use Rattle.std.specs.Ordering.{int_eq}
use Rattle.std.specs.Bool.{beq}
use Rattle.std.specs.Str.{bytes_eq}
use Rattle.zic_base.specs.Check.{Check, check, first_failed}
use Rattle.zic_base.specs.Fault.{IsFirstFailed}
use Rattle.zic_base.specs.State.{Shown}
use Rattle.zic_base.specs.declared.fault.Fault.{Fault}
use Rattle.zic_base.specs.declared.fault.Kind.{Kind}
use Rattle.zic_base.specs.declared.fault.Kind.TheVariants.{TooManyChanges, TooManyTypes, TooManyChars}
use Rattle.zic_base.specs.declared.fault.Place.{Place}
use Rattle.zic_posix.specs.Footer.{TzString, version_of}
use Rattle.zic_posix.specs.Printing.{printed}
use Rattle.zic_states.specs.Change as of_zone
use Rattle.zic_states.specs.Zone.{Zone}
use Rattle.zic_tzif.specs.declared.content.Change.{Change}
use Rattle.zic_tzif.specs.declared.content.LocalType.{LocalType}
use Rattle.zic_tzif.specs.declared.content.TheConstants.{MAX_TRANSITIONS, MAX_TYPES, MAX_CHARACTERS}
use Rattle.zic_tzif.specs.Content.{Content}

-- each member once, in the order of their first use
abbrev pub firsts : {A : Type 0} → (A → A → Bool) → List A → List A
firsts same [] = []
firsts same (x ∷ xs) = x ∷ filter (λ y. not (same x y)) (firsts same xs)

-- the members before the first that is the same as this
abbrev pub before : {A : Type 0} → (A → A → Bool) → List A → A → List A
before same xs x = take_while (λ y. not (same y x)) xs

-- the two states are the same
abbrev pub same_state : Shown → Shown → Bool
same_state a b = int_eq a.offset b.offset && beq a.daylight b.daylight && bytes_eq a.name b.name

-- the different states of a first state and the changes after it
abbrev pub states_of : Shown → List of_zone.Change → List Shown
states_of first changes = firsts same_state (first ∷ map (λ c. c.state) changes)

-- the different abbreviations of these states
abbrev pub names_of : List Shown → List (List ℕ)
names_of states = firsts bytes_eq (map (λ s. s.name) states)

-- names one after another, each ended by NUL
abbrev pub ended : List (List ℕ) → List ℕ
ended names = flat_map (λ name. name ++ 0 ∷ []) names

-- a state as a local time type, its designation among these names
abbrev pub local_type : List (List ℕ) → Shown → LocalType
local_type names s = record { offset = s.offset; daylight = s.daylight; place = length (ended (before bytes_eq names s.name)) }

-- a change to one of these states
abbrev pub transition : List Shown → of_zone.Change → Change
transition states c = record { instant = c.instant; number = length (before same_state states c.state) }

-- the content for a first state, the changes after it, and a footer
abbrev pub content_of : Shown → List of_zone.Change → TzString → Content
content_of first changes f =
    let states = states_of first changes in
    let names = names_of states in
    record {
      version = version_of f;
      changes = map (transition states) changes;
      types = map (local_type names) states;
      names = ended names;
      text = printed f;
    }

-- The limits of a table, in order: transitions, local time types, bytes of designations. That there are at most 256 types follows from
-- RFC 9636, 3.2, where a type's number is a byte; the others and the order are own choices.
abbrev pub limits : Shown → List of_zone.Change → List (Check Kind)
limits first changes =
    check (nat_le (length changes) MAX_TRANSITIONS) TooManyChanges
    ∷ check (nat_le (length (states_of first changes)) MAX_TYPES) TooManyTypes
    ∷ check (nat_le (length (ended (names_of (states_of first changes)))) MAX_CHARACTERS) TooManyChars
    ∷ []

-- The content is that of the zone, with this footer: its state before every change, all its changes, and the footer; no limit is exceeded.
pub record IsContentOf (zone : Zone) (f : TzString) (content : Content) : Type 0 where
  pub first : Shown
  pub changes : List of_zone.Change
  pub are_changes : of_zone.AreChanges zone changes
  pub is_first : of_zone.IsFirstState zone first
  pub fits : first_failed (limits first changes) ≡ None
  pub is : content ≡ content_of first changes f

-- why a zone, whose Zone line stands at this place, has no table: the first limit that it exceeds
pub record IsFaultOfTable (zone : Zone) (place : Place) (fault : Fault) : Type 0 where
  pub first : Shown
  pub changes : List of_zone.Change
  pub are_changes : of_zone.AreChanges zone changes
  pub is_first : of_zone.IsFirstState zone first
  pub first_exceeded : IsFirstFailed place (limits first changes) fault

-- The zone has no more changes than a table takes, the one limit that is checked before memory is requested.
abbrev pub HasFewChanges : Zone → Type 0
HasFewChanges zone = (changes : List of_zone.Change) → of_zone.AreChanges zone changes → length changes ≤ MAX_TRANSITIONS
