-- The edges that the code makes, computed.
use Rattle.std.specs.Prelude.{◌+◌, ◌-◌, ◌==◌, ◌&&◌, not, if◌then◌else◌, ℕ, ℤ, pos, ◌+ℤ◌, ◌-ℤ◌, ◌*ℤ◌, true, Some}
use Rattle.zic_calendar.specs.Calendar.{month_length, days_of_months}
use Rattle.zic_calendar.specs.DayForm.{week_of, days_into_week, weekday_before}
use Rattle.zic_calendar.specs.declared.day_form.On.{On}
use Rattle.zic_calendar.specs.declared.day_form.On.TheVariants.{Day, Last, After, Before}
use Rattle.zic_posix.specs.Footer.{TzString}
use Rattle.zic_posix.specs.declared.footer.DayRule.{DayRule}
use Rattle.zic_posix.specs.declared.footer.DayRule.TheVariants.{J, M}
use Rattle.zic_posix.specs.declared.footer.Dst.{Dst}
use Rattle.zic_posix.specs.declared.footer.Edge.{Edge}
use Rattle.zic_rules.specs.declared.tail.TailRule.{TailRule}
use Rattle.zic_footer.specs.Making.{wall_time}

-- a day of a string, and how many days after it the day lies that is meant
pub record ShiftedDay : Type 0 where
  pub day : DayRule
  pub shift : ℤ

-- the first X on or after day q of a month, which may lie before the month's first
abbrev pub by_week : ℕ → ℕ → ℤ → ShiftedDay
by_week month weekday q =
    let shift = days_into_week q in
    record { day = M month (week_of q) (weekday_before weekday shift); shift = shift }

-- the day of a rule's form
abbrev pub day_of_form : ℕ → On → ShiftedDay
day_of_form month (Day day) = record { day = J (days_of_months (pos 1) (month - 1) + day); shift = pos 0 }
day_of_form month (Last weekday) = record { day = M month 5 weekday; shift = pos 0 }
day_of_form month (After weekday day) =
    if (day == month_length true month - 6) && not (month == 2) then record { day = M month 5 weekday; shift = pos 0 }
    else by_week month weekday (pos day)
day_of_form month (Before weekday day) =
    if day == month_length true month then record { day = M month 5 weekday; shift = pos 0 }
    else by_week month weekday (pos day -ℤ pos 6)

-- the edge at which a rule takes over, where this is saved before
abbrev pub edge_of : ℤ → TailRule → ℤ → Edge
edge_of standard rule saved =
    let at = day_of_form rule.moment.month rule.moment.on in
    record {
      day = at.day;
      time = wall_time rule.moment.at.form standard saved rule.moment.at.seconds +ℤ (pos 86_400 *ℤ at.shift);
    }

-- the daylight part by the rule that starts daylight saving time and the one that ends it
abbrev pub daylight_part : ℤ → TailRule → TailRule → Dst
daylight_part standard starting ending = record {
  name = starting.name;
  offset = standard +ℤ starting.saving.seconds;
  start = edge_of standard starting ending.saving.seconds;
  stop = edge_of standard ending starting.saving.seconds;
}

-- the string by these two rules
abbrev pub by_rules : ℤ → TailRule → TailRule → TzString
by_rules standard starting ending = record {
  std = ending.name;
  offset = standard +ℤ ending.saving.seconds;
  dst = Some (daylight_part standard starting ending);
}
