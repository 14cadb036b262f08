-- When a schedule is due. All is in seconds: instants since 1970-01-01 00:00 UT, and local times since 1970-01-01 00:00 on the clocks of
-- the place. Days are counted from 1970-01-01, day 0, in the proleptic Gregorian calendar.
use Rattle.std.specs.Prelude.{◌≡◌, ℕ, ◌<◌, ◌≤◌, ℤ, pos, ◌+ℤ◌, ◌*ℤ◌, ◌<ℤ◌, ◌≤ℤ◌, List, length, take, drop}
use Rattle.zic_tzif.specs.Content.{Content}
use Rattle.zic_layouts.specs.declared.disambiguation.Disambiguation.TheVariants as choice
use Rattle.zic_local.specs.LocalTime.{AreJust, IsInRange}
use Rattle.zic_local.specs.Choice.{IsFirst, Means}
use Rattle.zic_local.specs.Weekdays.{HasWeekdayOf}
use Rattle.zic_local.specs.declared.schedule.Policy.{Policy}
use Rattle.zic_local.specs.declared.schedule.Policy.TheVariants as policy
use Rattle.zic_local.specs.declared.schedule.Schedule.{Schedule}

-- the local time of a time of day, on a day
abbrev pub local_time_on : ℤ → ℕ → ℤ
local_time_on day seconds = (pos 86_400 *ℤ day) +ℤ pos seconds

-- The instant that a policy means by a local time. Three policies are those of Temporal's `disambiguation`, of which `compatible` is what
-- RFC 5545, 3.3.5, asks for. `Skip` ignores a local time that isn't there, as RFC 5545, 3.3.10, asks for, and takes the first of several instants.
abbrev pub IsMeant : Content → ℤ → Policy → ℤ → Type 0
IsMeant content local policy.Compatible t = Means content local choice.Compatible t
IsMeant content local policy.Earlier t = Means content local choice.Earlier t
IsMeant content local policy.Later t = Means content local choice.Later t
IsMeant content local policy.Skip t = IsFirst content local t

-- The schedule is due on a day, at this instant: the day is one of its weekdays, and the instant is meant by its time of day on it. Own choice:
-- none is due on the first and the last days of 64 bits, where an instant may be outside.
pub record IsDueOn (content : Content) (schedule : Schedule) (day t : ℤ) : Type 0 where
  pub weekday : HasWeekdayOf schedule.weekdays day
  pub range : IsInRange (local_time_on day schedule.time)
  pub meant : IsMeant content (local_time_on day schedule.time) schedule.policy t

-- the schedule is due at the instant, on some day
abbrev pub IsDue : Content → Schedule → ℤ → Type 0
IsDue content schedule t = (day : ℤ) × IsDueOn content schedule day t

-- the least instant after one and up to another at which the schedule is due
pub record IsNext (content : Content) (schedule : Schedule) (after until t : ℤ) : Type 0 where
  pub due : IsDue content schedule t
  pub later : after <ℤ t
  pub within : t ≤ℤ until
  pub least : (other : ℤ) → IsDue content schedule other → after <ℤ other → t ≤ℤ other

-- the schedule is due at no instant after one and up to another
abbrev pub IsNeverDue : Content → Schedule → ℤ → ℤ → Type 0
IsNeverDue content schedule after until = (t : ℤ) → IsDue content schedule t → after <ℤ t → t ≤ℤ until → ⊥

-- the schedule is due at the instant, which is after one and not after another
abbrev pub IsDueWithin : Content → Schedule → ℤ → ℤ → ℤ → Type 0
IsDueWithin content schedule after until t = IsDue content schedule t × (after <ℤ t) × (t ≤ℤ until)

-- This number of due instants after one is written, each once and in rising order: all up to another, or as many as there is room for. The rest
-- of the room stays as it was.
pub record AreDueWritten (content : Content) (schedule : Schedule) (after until : ℤ) (before written : List ℤ) (count : ℕ) : Type 0 where
  pub end : ℤ
  pub within : end ≤ℤ until
  pub due : AreJust (IsDueWithin content schedule after end) (take count written)
  pub size : length written ≡ length before
  pub fits : count ≤ length written
  pub all : count < length written → end ≡ until
  pub rest : drop count written ≡ drop count before
