-- The instant that is meant by a local time, by what is chosen for a gap and for a fold. The names and their meanings are those of
-- `disambiguation` in ECMAScript's Temporal; `compatible` is what RFC 5545, 3.3.5, asks for.
use Rattle.std.specs.Prelude.{◌≡◌, ℤ, ◌+ℤ◌, ◌≤ℤ◌, ◌⊎◌}
use Rattle.zic_tzif.specs.Content.{Content}
use Rattle.zic_layouts.specs.declared.disambiguation.Disambiguation.{Disambiguation}
use Rattle.zic_layouts.specs.declared.disambiguation.Disambiguation.TheVariants as choice
use Rattle.zic_local.specs.declared.local_time.Unresolved.{Unresolved}
use Rattle.zic_local.specs.declared.local_time.Unresolved.TheVariants as unresolved
use Rattle.zic_local.specs.declared.local_time.Gap.{Gap}
use Rattle.zic_local.specs.declared.local_time.Fold.{Fold}
use Rattle.zic_local.specs.declared.local_time.LocalInstants.TheVariants as instants
use Rattle.zic_local.specs.LocalTime.{IsInstantOf, IsFoldOf, AnswersLocal}

-- the only instant of a local time
pub record IsOnly (content : Content) (local t : ℤ) : Type 0 where
  pub is : IsInstantOf content local t
  pub only : (other : ℤ) → IsInstantOf content local other → other ≡ t

-- the first instant of a local time, and the last
pub record IsFirst (content : Content) (local t : ℤ) : Type 0 where
  pub is : IsInstantOf content local t
  pub first : (other : ℤ) → IsInstantOf content local other → t ≤ℤ other

pub record IsLast (content : Content) (local t : ℤ) : Type 0 where
  pub is : IsInstantOf content local t
  pub last : (other : ℤ) → IsInstantOf content local other → other ≤ℤ t

-- the local time is in a gap, and with the UT offset before the gap it is this instant
pub record IsReadBefore (content : Content) (local t : ℤ) : Type 0 where
  pub gap : Gap
  pub in_gap : AnswersLocal content local (instants.Gap gap)
  pub is : t +ℤ gap.before ≡ local

-- the local time is in a gap, and with the UT offset after the gap it is this instant
pub record IsReadAfter (content : Content) (local t : ℤ) : Type 0 where
  pub gap : Gap
  pub in_gap : AnswersLocal content local (instants.Gap gap)
  pub is : t +ℤ gap.after ≡ local

-- The instant that is meant: the only one; the first or the last; in a gap by the offset after it or before it.
abbrev pub Means : Content → ℤ → Disambiguation → ℤ → Type 0
Means content local choice.Reject t = IsOnly content local t
Means content local choice.Earlier t = IsFirst content local t ⊎ IsReadAfter content local t
Means content local choice.Later t = IsLast content local t ⊎ IsReadBefore content local t
Means content local choice.Compatible t = IsFirst content local t ⊎ IsReadBefore content local t

-- why no instant is meant: `reject` refuses a gap and a fold, and every choice local time that a file leaves open
abbrev pub IsUnresolved : Content → ℤ → Disambiguation → Unresolved → Type 0
IsUnresolved content local disambiguation unresolved.Gap = (disambiguation ≡ choice.Reject) × ((gap : Gap) × AnswersLocal content local (instants.Gap gap))
IsUnresolved content local disambiguation unresolved.Fold = (disambiguation ≡ choice.Reject) × ((fold : Fold) × IsFoldOf content local fold)
IsUnresolved content local disambiguation unresolved.Unspecified = AnswersLocal content local instants.Unspecified
