-- Laws about the instants of local times.
use Rattle.std.specs.Prelude.{◌≡◌, ℕ, ℤ, ◌+ℤ◌, ◌-ℤ◌, ◌≤◌, List, Contains, Some, unsigned_abs, Result, MatchResult}
use Rattle.zic_base.specs.State.{Shown}
use Rattle.zic_tzif.specs.Content.{Content}
use Rattle.zic_tzif.specs.Answer.{Answers, IsUnspecified}
use Rattle.zic_tzif.specs.Reading.{IsFile}
use Rattle.zic_layouts.specs.declared.disambiguation.Disambiguation.{Disambiguation}
use Rattle.zic_local.specs.declared.local_time.Unresolved.{Unresolved}
use Rattle.zic_local.specs.declared.local_time.LocalInstants.{LocalInstants}
use Rattle.zic_local.specs.declared.local_time.LocalInstants.TheVariants as instants
use Rattle.zic_local.specs.LocalTime.{IsInstantOf, AreInstantsOf, HaveOffsets, HaveOffsetsWithin, AnswersLocal}
use Rattle.zic_local.specs.Choice.{Means, IsUnresolved}

-- a file's UT offsets are within 25:59:59, and an instant is as near its local time as UT offsets are to 0
pub record InstantsAreNear : Type 0 where
  pub offsets : (octets : List ℕ) (content : Content) → IsFile octets content → HaveOffsets content
  pub near : (most : ℕ) (content : Content) → HaveOffsetsWithin most content
      → (local t : ℤ) → IsInstantOf content local t → unsigned_abs (local -ℤ t) ≤ most

-- the instants of a local time are one list
pub record InstantsAreListedOnce : Type 0 where
  pub some : (octets : List ℕ) (content : Content) → IsFile octets content → (local : ℤ) → (list : List ℤ) × AreInstantsOf content local list
  pub only : (content : Content) (local : ℤ) (a b : List ℤ) → AreInstantsOf content local a → AreInstantsOf content local b → a ≡ b

-- A file has exactly one answer for each local time. One that leaves local time open nowhere has a gap wherever it has no instant.
pub record OneAnswerForEachLocalTime : Type 0 where
  pub some : (octets : List ℕ) (content : Content) → IsFile octets content → (local : ℤ) → (given : LocalInstants) × AnswersLocal content local given
  pub only : (content : Content) (local : ℤ) (a b : LocalInstants) → AnswersLocal content local a → AnswersLocal content local b → a ≡ b
  pub known : (octets : List ℕ) (content : Content) → IsFile octets content → ((t : ℤ) → IsUnspecified content t → ⊥)
      → (local : ℤ) → AnswersLocal content local instants.Unspecified → ⊥

-- round trip: an instant is among those of the local time that clocks show at it
abbrev pub InstantsComeBack : Type 0
InstantsComeBack =
    (content : Content) (t : ℤ) (state : Shown) → Answers content t (Some state)
    → (list : List ℤ) → AreInstantsOf content (t +ℤ state.offset) list → Contains list t

-- each choice has at most one answer, an instant or a reason why there is none
abbrev pub ChoicesMeanOne : Type 0
ChoicesMeanOne =
    (content : Content) (local : ℤ) (disambiguation : Disambiguation) (a b : Result ℤ Unresolved)
    → MatchResult a (Means content local disambiguation) (IsUnresolved content local disambiguation)
    → MatchResult b (Means content local disambiguation) (IsUnresolved content local disambiguation) → a ≡ b
