-- The numbers that a file has beside its content once it was read.
use Rattle.std.specs.Prelude.{ℕ, ℤ, List, map, ◌≡◌, ◌<◌, ◌≤◌, ◌<ℤ◌, Option, [], length, All, AllPairs}
use Rattle.std.specs.Option.{MatchOption}
use Rattle.zic_posix.specs.Footer.{TzString}
use Rattle.zic_tzif.specs.declared.content.LocalType.{LocalType}
use Rattle.zic_tzif.specs.Content.{Content, IsFooter, IsLocalType}
use Rattle.zic_tzif.specs.Designation.{designation}

-- Transitions rise and have types; there is a type, and each type has a designation; the footer is that of the text, or none for no text.
pub record IsSoundContent (content : Content) (footer : Option TzString) : Type 0 where
  pub rising : AllPairs (λ a b. a.instant <ℤ b.instant) content.changes
  pub have_types : All (λ c. c.number < length content.types) content.changes
  pub some_type : 1 ≤ length content.types
  pub types : All (IsLocalType content.names) content.types
  pub footer_is : MatchOption footer (content.text ≡ []) (IsFooter content)

-- how long a type's designation is
abbrev pub name_length : List ℕ → LocalType → ℕ
name_length names t = length (designation names t.place)

-- how a zone stores its content: as many times of transitions as numbers of types, and the length of each type's designation
pub record IsStored (times : List ℤ) (numbers lengths : List ℕ) (content : Content) (footer : Option TzString) : Type 0 where
  pub sound_content : IsSoundContent content footer
  pub as_many : length times ≡ length numbers
  pub lengths_are : lengths ≡ map (name_length content.names) content.types
