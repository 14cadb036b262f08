-- What the calls on a zone return. Own choice.
use Rattle.std.specs.Prelude.{◌≡◌, ℕ, ℤ, List, Option, Some, None, MatchOption, IsSomeAnd}
use Rattle.zic_base.specs.State.{Shown}
use Rattle.zic_tzif.specs.Content.{Content}
use Rattle.zic_posix.specs.Instants.{Includes, AreBetween}
use Rattle.zic_posix.specs.declared.span.Instants.{Instants}
use Rattle.zic_tzif.specs.Answer.{Answers, AnswersThroughout, MayChangeAt}
use Rattle.zic_tzif.specs.Reading.{IsFile, IsFault, ReadNeedsMemory}
use Rattle.zic_tzif.specs.declared.reason.Reason.{Reason}
use Rattle.zic_tzif.specs.Reason.{reason_number}
use Rattle.pzic_zones.specs.Handle.{content_of}
use Rattle.pzic_zones.specs.State.{IsStateOf, state_of}
use Rattle.pzic_zones.specs.declared.held.Held.{Held}
use Rattle.pzic_zones.specs.declared.state.State.{State}
use Rattle.pzic_zones.specs.declared.status.TheConstants.{OK, UNSPECIFIED, NO_MEMORY, BAD_FILE}

-- the status of an answer
abbrev pub status_of : Option Shown → ℤ
status_of (Some shown) = OK
status_of None = UNSPECIFIED

-- The status and the state are those of the answer.
pub record IsAnswer (answer : Option Shown) (status : ℤ) (state : State) : Type 0 where
  pub status_is : status ≡ status_of answer
  pub state_is : IsStateOf (state_of answer) state

-- They are what the file of this content answers at an instant.
abbrev pub IsAnswerAt : Content → ℤ → ℤ → State → Type 0
IsAnswerAt content t status state = (answer : Option Shown) × Answers content t answer × IsAnswer answer status state

-- They are what the file answers at all of these instants, of which t is one. Between them it may change only where it has a transition or its
-- footer an edge.
pub record IsAnswerAround (content : Content) (t : ℤ) (instants : Instants) (status : ℤ) (state : State) : Type 0 where
  pub requested : Includes instants t
  pub between : AreBetween (MayChangeAt content) instants
  pub reported : (answer : Option Shown) × AnswersThroughout content instants answer × IsAnswer answer status state

-- The status and the number say why bytes weren't read: the reason's number, or that memory ran out, and then the number stays as it was.
abbrev pub IsReasonGiven : Option Reason → ℤ → ℕ → ℕ → Type 0
IsReasonGiven (Some r) status before number = (status ≡ BAD_FILE) × (number ≡ reason_number r)
IsReasonGiven None status before number = (status ≡ NO_MEMORY) × (number ≡ before)

-- The bytes were read, and the handle holds the zone of what they say; or they weren't, it holds nothing, and the reason that is returned is that of the
-- first check that they fail, or memory ran out at what may take it.
abbrev pub IsRead : List ℕ → ℤ → ℕ → ℕ → Option Held → Type 0
IsRead octets status before number (Some held) = (status ≡ OK) × (number ≡ before) × IsSomeAnd (content_of held) (IsFile octets)
IsRead octets status before number None =
    (refusal : Option Reason) × MatchOption refusal (ReadNeedsMemory octets) (IsFault octets) × IsReasonGiven refusal status before number

-- the instants from the first to the last
abbrev pub instants : ℤ → ℤ → Instants
instants first last = record { first = first; last = last }
