-- The content of a TZif file: RFC 9636, 3.
use Rattle.std.specs.Prelude.{◌≡◌, ℕ, ◌<◌, ◌≤◌, ◌<ℤ◌, true, List, [], ◌∷◌, ◌++◌, length, unsigned_abs, slice_get, ◌⊎◌, All, AllPairs, IsSomeAnd, FitsSigned}
use Rattle.std.specs.Int.{w64}
use Rattle.zic_base.specs.State.{Shown}
use Rattle.zic_base.specs.declared.constants.TheConstants.{FARTHEST_FILE_OFFSET}
use Rattle.zic_posix.specs.Footer.{TzString}
use Rattle.zic_posix.specs.Grammar.{Spells}
use Rattle.zic_posix.specs.Meaning.{Means}
use Rattle.zic_tzif.specs.declared.content.Change.{Change}
use Rattle.zic_tzif.specs.declared.content.LocalType.{LocalType}
use Rattle.zic_tzif.specs.declared.content.TheConstants.{MAX_TRANSITIONS, MAX_TYPES, MAX_CHARACTERS, LONGEST_FOOTER}
use Rattle.zic_tzif.specs.Designation.{designation, is_designated}

-- version; transitions; local time types; bytes of designations; text of the footer
pub record Content : Type 0 where
  pub version : ℕ
  pub changes : List Change
  pub types : List LocalType
  pub names : List ℕ
  pub text : List ℕ

abbrev pub content : ℕ → List Change → List LocalType → List ℕ → List ℕ → Content
content version changes types names text =
    record { version = version; changes = changes; types = types; names = names; text = text }

-- local time of this type
abbrev pub type_state : List ℕ → LocalType → Shown
type_state names t = record { offset = t.offset; daylight = t.daylight; name = designation names t.place }

-- local time of the type with this number
abbrev pub IsStateOfType : Content → ℕ → Shown → Type 0
IsStateOfType content number state = IsSomeAnd (slice_get content.types number) (λ t. state ≡ type_state content.names t)

-- the last of the transitions
abbrev pub IsLastTransition : Content → Change → Type 0
IsLastTransition content c = (earlier : List Change) × (content.changes ≡ earlier ++ c ∷ [])

-- The text spells the string, which at the last transition, if there is one, means the type that begins there. RFC 9636, 3.3
pub record IsFooter (content : Content) (f : TzString) : Type 0 where
  pub spells : Spells content.version content.text f
  pub agrees : (c : Change) (state : Shown) → IsLastTransition content c → IsStateOfType content c.number state → Means f c.instant state

-- a type's offset is within 25:59:59 either way (own choice), and its place begins a designation
pub record IsLocalType (names : List ℕ) (t : LocalType) : Type 0 where
  pub offset : unsigned_abs t.offset ≤ FARTHEST_FILE_OFFSET
  pub designation : is_designated names t.place ≡ true

-- A content that passes the checks of a reader when it is written: transitions rise and have types, types are right, and the footer agrees
-- with the last transition. The limits keep the file below a reader's limit, and the number of a type and the place of a
-- designation in a byte. Only that of 256 types follows from RFC 9636, 3.2; the others are own choices.
pub record IsWritable (content : Content) : Type 0 where
  pub version : (content.version ≡ 2) ⊎ (content.version ≡ 3)
  pub rising : AllPairs (λ a b. a.instant <ℤ b.instant) content.changes
  pub instants : All (λ c. FitsSigned w64 c.instant) content.changes
  pub have_types : All (λ c. c.number < length content.types) content.changes
  pub transitions_fit : length content.changes ≤ MAX_TRANSITIONS
  pub some_type : 1 ≤ length content.types
  pub types_fit : length content.types ≤ MAX_TYPES
  pub types : All (IsLocalType content.names) content.types
  pub names_fit : length content.names ≤ MAX_CHARACTERS
  pub text_fits : length content.text ≤ LONGEST_FOOTER
  pub footer : (f : TzString) × IsFooter content f
