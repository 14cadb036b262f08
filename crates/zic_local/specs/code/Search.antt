-- What a search through days has found so far.
use Rattle.std.specs.Prelude.{◌≡◌, ℕ, ℤ, pos, ◌+ℤ◌, ◌-ℤ◌, ◌<ℤ◌, ◌≤ℤ◌, ◌⊎◌, List, length, take, drop, Option, Some, MatchOption}
use Rattle.zic_base.specs.declared.constants.TheConstants.{FARTHEST_FILE_OFFSET}
use Rattle.zic_posix.specs.declared.span.TheConstants.{MIN_INSTANT, MAX_INSTANT}
use Rattle.zic_tzif.specs.Content.{Content}
use Rattle.zic_local.specs.LocalTime.{AreJust}
use Rattle.zic_local.specs.Due.{IsDueOn, IsDueWithin, local_time_on}
use Rattle.zic_local.specs.declared.schedule.Schedule.{Schedule}

-- a local time that a search comes to: in range, or the first one after those in range
pub record IsOfWalk (local : ℤ) : Type 0 where
  pub low : MIN_INSTANT ≤ℤ (local -ℤ pos FARTHEST_FILE_OFFSET)
  pub high : local ≤ℤ MAX_INSTANT

-- a due instant up to one has its local time no farther after the other than a UT offset can be
abbrev pub EndsAt : Content → ℤ → ℤ → Type 0
EndsAt content until end = (schedule : Schedule) (day t : ℤ) → IsDueOn content schedule day t → t ≤ℤ until
    → local_time_on day schedule.time ≤ℤ (end +ℤ pos FARTHEST_FILE_OFFSET)

-- what was found, or what is due and in the range
abbrev pub IsCandidate : Option ℤ → Option ℤ → ℤ → ℤ → ℤ → Type 0
IsCandidate found due after until t = (found ≡ Some t) ⊎ ((due ≡ Some t) × (after <ℤ t) × (t ≤ℤ until))

-- the schedule is due at the instant, on a day before another and in the range
pub record IsDueBefore (content : Content) (schedule : Schedule) (after until end t : ℤ) : Type 0 where
  pub day : ℤ
  pub due : IsDueOn content schedule day t
  pub before : day <ℤ end
  pub later : after <ℤ t
  pub within : t ≤ℤ until

-- the least instant that is due on the days before one, if there is any
abbrev pub IsFound : Content → Schedule → ℤ → ℤ → ℤ → Option ℤ → Type 0
IsFound content schedule after until end found = MatchOption found
    ((t : ℤ) → IsDueBefore content schedule after until end t → ⊥)
    (λ t. IsDueBefore content schedule after until end t
    × ((other : ℤ) → IsDueBefore content schedule after until end other → t ≤ℤ other))

-- the days before one were searched
pub record IsSearched (content : Content) (schedule : Schedule) (after until day : ℤ) (found : Option ℤ) : Type 0 where
  pub tells : IsFound content schedule after until day found
  pub walk : IsOfWalk (local_time_on day schedule.time)

-- This number of due instants is written: all from one instant to another.
pub record IsWritten (content : Content) (schedule : Schedule) (after until from : ℤ) (before room : List ℤ) (count : ℕ) : Type 0 where
  pub order : after ≤ℤ from
  pub reach : (t : ℤ) → after <ℤ t → t ≤ℤ from → t ≤ℤ until
  pub due : AreJust (IsDueWithin content schedule after from) (take count room)
  pub size : length room ≡ length before
  pub rest : drop count room ≡ drop count before
