-- What a walk over the spans of a file has found so far.
use Rattle.std.specs.Prelude.{◌≡◌, ℕ, ◌+◌, ◌≤◌, ℤ, pos, ◌+ℤ◌, ◌-ℤ◌, ◌<ℤ◌, ◌≤ℤ◌, List, [], ◌∷◌, ◌++◌, length, unsigned_abs, Option, Some, None}
use Rattle.std.specs.Prelude.{FitsSigned}
use Rattle.std.specs.Int.{w64}
use Rattle.zic_posix.specs.Instants.{Includes, AreBetween}
use Rattle.zic_posix.specs.declared.span.Instants.{Instants}
use Rattle.zic_base.specs.State.{Shown}
use Rattle.zic_base.specs.declared.constants.TheConstants.{FARTHEST_FILE_OFFSET}
use Rattle.zic_tzif.specs.Content.{Content}
use Rattle.zic_tzif.specs.Answer.{AnswersThroughout, MayChangeAt}
use Rattle.zic_local.specs.declared.local_time.Gap.{Gap}
use Rattle.zic_local.specs.declared.local_time.Fold.{Fold}
use Rattle.zic_local.specs.declared.local_time.LocalInstants.{LocalInstants}
use Rattle.zic_local.specs.declared.local_time.LocalInstants.TheVariants as instants
use Rattle.zic_local.specs.LocalTime.{IsInstantOf, AreJust, PassesOver, IsGapOf}

-- an instant of the local time that isn't after another
pub record IsInstantUpTo (content : Content) (local end t : ℤ) : Type 0 where
  pub is : IsInstantOf content local t
  pub within : t ≤ℤ end

-- just the instants of the local time up to another
abbrev pub AreUpTo : Content → ℤ → ℤ → List ℤ → Type 0
AreUpTo content local end = AreJust (IsInstantUpTo content local end)

-- several instants of these
pub record IsFoldUpTo (content : Content) (local end : ℤ) (fold : Fold) : Type 0 where
  pub between : List ℤ
  pub are : AreUpTo content local end (fold.first ∷ (between ++ fold.last ∷ []))
  pub count : fold.count ≡ length between + 2

-- the answer for a local time by the instants up to one, and the changes up to another
abbrev pub AnswersLocalUpTo : Content → ℤ → ℤ → ℤ → LocalInstants → Type 0
AnswersLocalUpTo content local end last_change (instants.Gap gap) = AreUpTo content local end [] × IsGapOf content local gap
AnswersLocalUpTo content local end last_change (instants.One t) = AreUpTo content local end (t ∷ [])
AnswersLocalUpTo content local end last_change (instants.Fold fold) = IsFoldUpTo content local end fold
AnswersLocalUpTo content local end last_change instants.Unspecified =
    AreUpTo content local end [] × ((gap : Gap) → PassesOver content local gap → gap.change ≤ℤ last_change → ⊥)

-- more instants than the 52 hours round a local time have
abbrev pub MOST_INSTANTS : ℕ
MOST_INSTANTS = 200_000

-- how many instants were found
abbrev pub found_count : LocalInstants → ℕ
found_count (instants.Gap gap) = 0
found_count (instants.One t) = 1
found_count (instants.Fold fold) = fold.count
found_count instants.Unspecified = 0

-- one instant more, after the others
abbrev pub with_instant : LocalInstants → Option ℤ → LocalInstants
with_instant given None = given
with_instant (instants.Gap gap) (Some t) = instants.One t
with_instant (instants.One first) (Some t) = instants.Fold (record { first = first; last = t; count = 2 })
with_instant (instants.Fold fold) (Some t) = instants.Fold (record { first = fold.first; last = t; count = fold.count + 1 })
with_instant instants.Unspecified (Some t) = instants.One t

-- a gap, which only counts where nothing was found
abbrev pub with_gap : LocalInstants → Option Gap → LocalInstants
with_gap given None = given
with_gap (instants.Gap other) (Some gap) = instants.Gap other
with_gap (instants.One t) (Some gap) = instants.One t
with_gap (instants.Fold fold) (Some gap) = instants.Fold fold
with_gap instants.Unspecified (Some gap) = instants.Gap gap

-- the UT offset of an answer
abbrev pub HasOffset : Option Shown → ℤ → Type 0
HasOffset (Some state) offset = offset ≡ state.offset
HasOffset None offset = ⊥

-- the instant at which clocks with the offset of an answer show the local time is one of the answer's
pub record IsInSpan (instants : Instants) (answer : Option Shown) (local t : ℤ) : Type 0 where
  pub offset : ℤ
  pub of : HasOffset answer offset
  pub is : t +ℤ offset ≡ local
  pub inside : Includes instants t

-- clocks pass over the local time, where one answer gives way to another
pub record IsPassedAt (before after : Option Shown) (local : ℤ) (gap : Gap) : Type 0 where
  pub offset_before : HasOffset before gap.before
  pub offset_after : HasOffset after gap.after
  pub to_come : (gap.change +ℤ gap.before) ≤ℤ local
  pub passed : local <ℤ (gap.change +ℤ gap.after)

-- an answer's offset is within 25:59:59
abbrev pub HasNearOffset : Option Shown → Type 0
HasNearOffset answer = (offset : ℤ) → HasOffset answer offset → unsigned_abs offset ≤ FARTHEST_FILE_OFFSET

-- The answer for a local time is complete up to the last instant of a span that a file answers.
pub record IsWalked (content : Content) (local : ℤ) (span : Instants) (answer : Option Shown) (given : LocalInstants) : Type 0 where
  pub tells : AnswersLocalUpTo content local span.last span.last given
  pub answers : AnswersThroughout content span answer
  pub changes : AreBetween (MayChangeAt content) span
  pub some : span.first ≤ℤ span.last
  pub from : (local -ℤ pos FARTHEST_FILE_OFFSET) ≤ℤ span.last
  pub fits : FitsSigned w64 span.last
  pub counted : pos (found_count given) ≤ℤ ((span.last +ℤ pos (FARTHEST_FILE_OFFSET + 1)) -ℤ local)
