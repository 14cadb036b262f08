-- What the calls on local times return. Own choice.
use Rattle.pzic_zones.specs.Column.{AreAsLong}
use Rattle.std.specs.Prelude.{◌≡◌, ℕ, ℤ, pos, ◌⊎◌, List, length, Option, Some, None, Result, Ok, Err, MatchResult}
use Rattle.std.specs.List.{AllZip}
use Rattle.zic_tzif.specs.Content.{Content}
use Rattle.zic_local.specs.Choice.{Means, IsUnresolved}
use Rattle.zic_local.specs.LocalTime.{IsInRange, AnswersLocal}
use Rattle.zic_layouts.specs.declared.disambiguation.Disambiguation.{Disambiguation}
use Rattle.zic_layouts.specs.declared.disambiguation.Disambiguation.TheVariants as choice
use Rattle.zic_local.specs.declared.local_time.Unresolved.{Unresolved}
use Rattle.zic_local.specs.declared.local_time.Unresolved.TheVariants as unresolved
use Rattle.zic_local.specs.declared.local_time.LocalInstants.{LocalInstants}
use Rattle.zic_local.specs.declared.local_time.LocalInstants.TheVariants as instants
use Rattle.pzic_zones.specs.declared.local.LocalTime.{LocalTime}
use Rattle.pzic_zones.specs.declared.status.TheConstants.{OK, UNSPECIFIED, NO_SUCH, LENGTHS, OUT_OF_RANGE}

-- what C sees of a local time: its first and its last instant and how many there are, or the gap that it is in; what there isn't is 0
abbrev pub local_time_of : LocalInstants → LocalTime
local_time_of (instants.Gap gap) = record { first = pos 0; last = pos 0; change = gap.change; before = gap.before; after = gap.after; count = 0 }
local_time_of (instants.One t) = record { first = t; last = t; change = pos 0; before = pos 0; after = pos 0; count = 1 }
local_time_of (instants.Fold fold) = record { first = fold.first; last = fold.last; change = pos 0; before = pos 0; after = pos 0; count = fold.count }
local_time_of instants.Unspecified = record { first = pos 0; last = pos 0; change = pos 0; before = pos 0; after = pos 0; count = 0 }

-- the status for the instants of a local time
abbrev pub status_of_instants : LocalInstants → ℤ
status_of_instants (instants.Gap gap) = OK
status_of_instants (instants.One t) = OK
status_of_instants (instants.Fold fold) = OK
status_of_instants instants.Unspecified = UNSPECIFIED

-- The instants of a local time are given, or the gap that it is in; or it is so near an end of 64 bits that its instants may be outside, and
-- nothing is written.
abbrev pub IsLocalTimeGiven : Content → ℤ → ℤ → LocalTime → LocalTime → Type 0
IsLocalTimeGiven content local status before found =
    (IsInRange local × ((reported : LocalInstants) × AnswersLocal content local reported × (status ≡ status_of_instants reported) × (found ≡ local_time_of reported)))
    ⊎ ((IsInRange local → ⊥) × (status ≡ OUT_OF_RANGE) × (found ≡ before))

-- the number of a disambiguation
abbrev pub choice_number : Disambiguation → ℕ
choice_number choice.Reject = 0
choice_number choice.Earlier = 1
choice_number choice.Later = 2
choice_number choice.Compatible = 3

-- the instant that is meant by a local time, or why none is; or it is too near an end of 64 bits
abbrev pub IsMeant : Content → Disambiguation → ℤ → Option (Result ℤ Unresolved) → Type 0
IsMeant content choice local (Some answer) = IsInRange local × MatchResult answer (Means content local choice) (IsUnresolved content local choice)
IsMeant content choice local None = IsInRange local → ⊥

-- the instant of an answer, or 0 where there is none
abbrev pub instant_of : Option (Result ℤ Unresolved) → ℤ
instant_of (Some (Ok t)) = t
instant_of (Some (Err why)) = pos 0
instant_of None = pos 0

-- the status of an answer: 0 is an instant, 1 local time that is left open, 9 a local time too near an end of 64 bits, 10 a gap and 11 a fold
abbrev pub meant_status : Option (Result ℤ Unresolved) → ℕ
meant_status (Some (Ok t)) = 0
meant_status (Some (Err unresolved.Gap)) = 10
meant_status (Some (Err unresolved.Fold)) = 11
meant_status (Some (Err unresolved.Unspecified)) = 1
meant_status None = 9

-- the instant is the one that is meant by a local time, or 0 where none is
abbrev pub IsInstantMeant : Content → Disambiguation → ℤ → ℤ → Type 0
IsInstantMeant content choice local t = (answer : Option (Result ℤ Unresolved)) × IsMeant content choice local answer × (t ≡ instant_of answer)

-- the status says whether an instant is meant by a local time
abbrev pub IsStatusMeant : Content → Disambiguation → ℤ → ℕ → Type 0
IsStatusMeant content choice local status = (answer : Option (Result ℤ Unresolved)) × IsMeant content choice local answer × (status ≡ meant_status answer)

-- each instant and each status is that of the local time of its place, by the disambiguation of a number
pub record AreMeant (content : Content) (number : ℕ) (locals instants : List ℤ) (statuses : List ℕ) : Type 0 where
  pub choice : Disambiguation
  pub of_number : number ≡ choice_number choice
  pub instants_meant : AllZip (IsInstantMeant content choice) locals instants
  pub statuses_meant : AllZip (IsStatusMeant content choice) locals statuses

-- The instants are given; or the arrays differ in length, or no disambiguation has the number, and they stay as they were.
abbrev pub AreInstantsGiven : Content → ℕ → List ℤ → ℤ → List ℤ → List ℕ → List ℤ → List ℕ → Type 0
AreInstantsGiven content number locals status instants_before statuses_before instants statuses =
    ((status ≡ OK) × AreMeant content number locals instants statuses)
    ⊎ ((status ≡ LENGTHS) × (AreAsLong locals instants statuses → ⊥) × (instants ≡ instants_before) × (statuses ≡ statuses_before))
    ⊎ ((status ≡ NO_SUCH) × AreAsLong locals instants statuses × ((choice : Disambiguation) → number ≡ choice_number choice → ⊥)
    × (instants ≡ instants_before) × (statuses ≡ statuses_before))
