-- Laws of what is due.
use Rattle.std.specs.Prelude.{◌≡◌, ℤ, Option, MatchOption, ◌⊎◌}
use Rattle.zic_tzif.specs.Content.{Content}
use Rattle.zic_local.specs.declared.local_time.Gap.{Gap}
use Rattle.zic_local.specs.LocalTime.{IsInstantOf, PassesOver}
use Rattle.zic_local.specs.Due.{IsDueOn, IsNeverDue, IsNext, local_time_on}
use Rattle.zic_local.specs.declared.schedule.Schedule.{Schedule}

-- one answer is the next, or that there is none
abbrev pub NextIsOne : Type 0
NextIsOne =
    (content : Content) (schedule : Schedule) (after until : ℤ) (a b : Option ℤ)
    → MatchOption a (IsNeverDue content schedule after until) (IsNext content schedule after until)
    → MatchOption b (IsNeverDue content schedule after until) (IsNext content schedule after until) → a ≡ b

-- clocks show the time of day when a schedule is due, but where the local time is in a gap
abbrev pub ClocksShowDueTimes : Type 0
ClocksShowDueTimes =
    (content : Content) (schedule : Schedule) (day t : ℤ) → IsDueOn content schedule day t
    → IsInstantOf content (local_time_on day schedule.time) t ⊎ ((gap : Gap) × PassesOver content (local_time_on day schedule.time) gap)
