use Rattle.std.proofs.Common.{◌≡◌, ℤ, MatchOption, FitsSigned, to_z, of_z, to_z-of_z, w64, ◌∙◌, refl, subst, rules}
use Rattle.zic_local.specs.Due.{IsMeant, local_time_on}
use Rattle.zic_local.specs.Weekdays.{HasWeekdayOf}
use Rattle.zic_local.proofs.Meant.{due_meant}
use Rattle.zic_local.proofs.due.due_on.Goals as goal

pub returns : goal.returns
returns c =
    let content = c.args.zone.now in
    let schedule = c.args.schedule.now in
    let local = c.local_time_on.result in
    let fits : FitsSigned w64 local = search rules in
    let is : local ≡ local_time_on c.args.day schedule.time = simp (to_z-of_z, c.ranges.day) at c.local_time_on.ensures in
    let weekday : HasWeekdayOf schedule.weekdays c.args.day = (simp (to_z-of_z, c.ranges.day) at c.if-not-have.ensures).0 refl in
    due_meant content schedule c.args.day weekday c.requires.range c.meant.result
    (subst (λ (z : ℤ). MatchOption c.meant.result ((t : ℤ) → IsMeant content z schedule.policy t → ⊥) (IsMeant content z schedule.policy)) (to_z-of_z fits ∙ is)
    c.meant.ensures)
