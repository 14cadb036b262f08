-- The answer of a file at an instant: RFC 9636, 3.2 and 3.3.
use Rattle.std.specs.Prelude.{◌≡◌, ◌≢◌, ℕ, ℤ, ◌<ℤ◌, ◌≤ℤ◌, ◌⊎◌, List, [], ◌∷◌, ◌++◌, All, Any, Option, Some, None}
use Rattle.zic_base.specs.State.{Shown, shown}
use Rattle.zic_posix.specs.Footer.{TzString}
use Rattle.zic_posix.specs.Grammar.{Spells}
use Rattle.zic_posix.specs.Instants.{Includes}
use Rattle.zic_posix.specs.Meaning.{Means, HasEdgeAt}
use Rattle.zic_posix.specs.declared.span.Instants.{Instants}
use Rattle.zic_tzif.specs.declared.content.Change.{Change}
use Rattle.zic_tzif.specs.Content.{Content, IsStateOfType}
use Rattle.zic_tzif.specs.declared.zone.Answer.{Answer}
use Rattle.zic_tzif.specs.declared.zone.Answer.TheVariants as answer

-- the last transition that isn't after t
pub record IsLastChange (content : Content) (t : ℤ) (c : Change) : Type 0 where
  pub earlier : List Change
  pub later : List Change
  pub is : content.changes ≡ earlier ++ c ∷ later
  pub not_after : c.instant ≤ℤ t
  pub last : All (λ other. t <ℤ other.instant) later

-- every transition comes after t
abbrev pub IsBeforeAll : Content → ℤ → Type 0
IsBeforeAll content t = All (λ c. t <ℤ c.instant) content.changes

-- some transition comes after t, so that the footer doesn't speak of t
abbrev pub IsBeforeLast : Content → ℤ → Type 0
IsBeforeLast content t = Any (λ c. t <ℤ c.instant) content.changes

-- the number of the type in force by the transitions: type 0 before all of them, and then that of the last one not after t
abbrev pub IsTypeAt : Content → ℤ → ℕ → Type 0
IsTypeAt content t number = (IsBeforeAll content t × (number ≡ 0)) ⊎ ((c : Change) × IsLastChange content t c × (number ≡ c.number))

-- no transition and no footer
abbrev pub HasNeither : Content → Type 0
HasNeither content = (content.changes ≡ []) × (content.text ≡ [])

-- The content gives this state at the instant: before the last transition, and where there is neither a transition nor a footer, that of
-- the type in force; else what the footer means.
abbrev pub Gives : Content → ℤ → Shown → Type 0
Gives content t state =
    ((IsBeforeLast content t ⊎ HasNeither content) × ((number : ℕ) × IsTypeAt content t number × IsStateOfType content number state))
    ⊎ ((IsBeforeLast content t → ⊥) × ((f : TzString) × Spells content.version content.text f × Means f t state))

-- Local time is unspecified: the last transition isn't after t, and there is no footer.
pub record IsUnspecified (content : Content) (t : ℤ) : Type 0 where
  pub some : content.changes ≢ []
  pub after : IsBeforeLast content t → ⊥
  pub no_footer : content.text ≡ []

-- the state of an answer, and nothing where local time is left open
abbrev pub answered : Answer → Option Shown
answered (answer.Known state) = Some (shown state)
answered answer.Unspecified = None

-- the answer of a content at an instant
abbrev pub Answers : Content → ℤ → Option Shown → Type 0
Answers content t (Some state) = Gives content t state
Answers content t None = IsUnspecified content t

-- a transition is at the instant
abbrev pub HasTransitionAt : Content → ℤ → Type 0
HasTransitionAt content t = Any (λ c. c.instant ≡ t) content.changes

-- The answer may change at the instant: it is a transition's, or, from the last transition on, an edge of the footer.
abbrev pub MayChangeAt : Content → ℤ → Type 0
MayChangeAt content t =
    HasTransitionAt content t
    ⊎ ((IsBeforeLast content t → ⊥) × ((f : TzString) × Spells content.version content.text f × HasEdgeAt f t))

-- The content answers this at each of the instants.
abbrev pub AnswersThroughout : Content → Instants → Option Shown → Type 0
AnswersThroughout content instants answer = (t : ℤ) → Includes instants t → Answers content t answer
