-- What the calls on schedules return. Own choice.
use Rattle.std.specs.Prelude.{◌≡◌, ℕ, ◌<◌, ℤ, ◌⊎◌, List}
use Rattle.zic_tzif.specs.Content.{Content}
use Rattle.zic_local.specs.Due.{AreDueWritten, IsNeverDue, IsNext}
use Rattle.zic_local.specs.declared.schedule.Policy.{Policy}
use Rattle.zic_local.specs.declared.schedule.Policy.TheVariants as policy
use Rattle.zic_local.specs.declared.schedule.Schedule.{Schedule}
use Rattle.pzic_zones.specs.declared.schedule.ScheduleOptions.{ScheduleOptions}
use Rattle.pzic_zones.specs.declared.status.TheConstants.{OK, NO_SUCH, OUT_OF_RANGE}

-- the number of a policy: that of the disambiguation of its name, where one has it
abbrev pub policy_number : Policy → ℕ
policy_number policy.Earlier = 1
policy_number policy.Later = 2
policy_number policy.Compatible = 3
policy_number policy.Skip = 4

-- the numbers say this schedule
pub record IsScheduleOf (given : ScheduleOptions) (schedule : Schedule) : Type 0 where
  pub time : schedule.time ≡ given.seconds
  pub time_fits : given.seconds < 86_400
  pub weekdays : schedule.weekdays ≡ given.weekdays
  pub weekdays_fit : given.weekdays < 128
  pub policy : given.policy ≡ policy_number schedule.policy

-- the numbers say no schedule: one is out of range
abbrev pub HasNoSchedule : ScheduleOptions → Type 0
HasNoSchedule given = (schedule : Schedule) → IsScheduleOf given schedule → ⊥

-- The next due instant is given; or the schedule is due at none, or the numbers say none, and nothing is written.
abbrev pub IsNextLocalGiven : Content → ScheduleOptions → ℤ → ℤ → ℤ → Type 0
IsNextLocalGiven content given status before found =
    ((status ≡ OK) × ((schedule : Schedule) × IsScheduleOf given schedule × IsNext content schedule given.after given.until found))
    ⊎ ((status ≡ NO_SUCH) × ((schedule : Schedule) × IsScheduleOf given schedule × IsNeverDue content schedule given.after given.until) × (found ≡ before))
    ⊎ ((status ≡ OUT_OF_RANGE) × HasNoSchedule given × (found ≡ before))

-- The due instants are given, as many as there is room for, and how many those are; or the numbers say no schedule, and nothing is written.
abbrev pub AreNextLocalsGiven : Content → ScheduleOptions → ℤ → List ℤ → ℕ → List ℤ → ℕ → Type 0
AreNextLocalsGiven content given status before count_before instants count =
    ((status ≡ OK) × ((schedule : Schedule) × IsScheduleOf given schedule × AreDueWritten content schedule given.after given.until before instants count))
    ⊎ ((status ≡ OUT_OF_RANGE) × HasNoSchedule given × (instants ≡ before) × (count ≡ count_before))
