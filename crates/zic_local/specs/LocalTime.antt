-- The instants of a local time. Both are in seconds: an instant since 1970-01-01 00:00 UT, and a local time since 1970-01-01 00:00 on
-- the clocks of the place.
use Rattle.std.specs.Prelude.{◌≡◌, ◌↔◌, ℕ, ◌+◌, ◌≤◌, ℤ, pos, ◌+ℤ◌, ◌-ℤ◌, ◌<ℤ◌, ◌≤ℤ◌, List, [], ◌∷◌, ◌++◌, length, unsigned_abs, Some, AllPairs, Contains}
use Rattle.zic_base.specs.State.{Shown}
use Rattle.zic_base.specs.declared.constants.TheConstants.{FARTHEST_FILE_OFFSET}
use Rattle.zic_posix.specs.declared.span.TheConstants.{MIN_INSTANT, MAX_INSTANT}
use Rattle.zic_tzif.specs.Content.{Content}
use Rattle.zic_tzif.specs.Answer.{Answers}
use Rattle.zic_local.specs.declared.local_time.Gap.{Gap}
use Rattle.zic_local.specs.declared.local_time.Fold.{Fold}
use Rattle.zic_local.specs.declared.local_time.LocalInstants.{LocalInstants}
use Rattle.zic_local.specs.declared.local_time.LocalInstants.TheVariants as instants

-- The UT offset at an instant: the number of seconds to be added to UT in order to determine local time (RFC 9636, 3.2). Where a file
-- leaves local time open, there is none.
pub record IsOffsetAt (content : Content) (t offset : ℤ) : Type 0 where
  pub state : Shown
  pub answers : Answers content t (Some state)
  pub is : offset ≡ state.offset

-- clocks show the local time at the instant: UT and the UT offset make it
pub record IsInstantOf (content : Content) (local t : ℤ) : Type 0 where
  pub offset : ℤ
  pub at : IsOffsetAt content t offset
  pub is : t +ℤ offset ≡ local

-- just the numbers with the property, each once and in rising order
pub record AreJust (P : ℤ → Type 0) (numbers : List ℤ) : Type 0 where
  pub rising : AllPairs ◌<ℤ◌ numbers
  pub just : (t : ℤ) → Contains numbers t ↔ P t

-- all instants of a local time, in rising order: none in a gap, two in a fold, and more where changes come close together
abbrev pub AreInstantsOf : Content → ℤ → List ℤ → Type 0
AreInstantsOf content local = AreJust (IsInstantOf content local)

-- Clocks pass over the local time at a change of the UT offset: the offset of a second before the change makes it a time to come at the
-- change, and the offset from the change on one that has passed.
pub record PassesOver (content : Content) (local : ℤ) (gap : Gap) : Type 0 where
  pub before : IsOffsetAt content (gap.change -ℤ pos 1) gap.before
  pub after : IsOffsetAt content gap.change gap.after
  pub to_come : (gap.change +ℤ gap.before) ≤ℤ local
  pub passed : local <ℤ (gap.change +ℤ gap.after)

-- the gap of a local time is at the first change that passes over it: own choice, where there are several
pub record IsGapOf (content : Content) (local : ℤ) (gap : Gap) : Type 0 where
  pub over : PassesOver content local gap
  pub first : (other : Gap) → PassesOver content local other → gap.change ≤ℤ other.change

-- the first and the last of several instants, and how many there are
pub record IsFoldOf (content : Content) (local : ℤ) (fold : Fold) : Type 0 where
  pub between : List ℤ
  pub are : AreInstantsOf content local (fold.first ∷ (between ++ fold.last ∷ []))
  pub count : fold.count ≡ length between + 2

-- No instant and a gap; one instant; several; or neither an instant nor a gap, as only where a file leaves local time open.
abbrev pub AnswersLocal : Content → ℤ → LocalInstants → Type 0
AnswersLocal content local (instants.Gap gap) = AreInstantsOf content local [] × IsGapOf content local gap
AnswersLocal content local (instants.One t) = AreInstantsOf content local (t ∷ [])
AnswersLocal content local (instants.Fold fold) = IsFoldOf content local fold
AnswersLocal content local instants.Unspecified = AreInstantsOf content local [] × ((gap : Gap) → PassesOver content local gap → ⊥)

-- each UT offset is at most this number of seconds, either way
abbrev pub HaveOffsetsWithin : ℕ → Content → Type 0
HaveOffsetsWithin most content = (t offset : ℤ) → IsOffsetAt content t offset → unsigned_abs offset ≤ most

-- each UT offset is within 25:59:59, as in each file
abbrev pub HaveOffsets : Content → Type 0
HaveOffsets = HaveOffsetsWithin FARTHEST_FILE_OFFSET

-- every instant within 25:59:59 of the local time is in 64 bits, as for all local times but the first and the last 25:59:59 of 64 bits
pub record IsInRange (local : ℤ) : Type 0 where
  pub low : MIN_INSTANT ≤ℤ (local -ℤ pos FARTHEST_FILE_OFFSET)
  pub high : (local +ℤ pos FARTHEST_FILE_OFFSET) ≤ℤ MAX_INSTANT
