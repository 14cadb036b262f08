-- Which footer goes on for a zone, and why a zone gets none. Own choice, but for what POSIX TZ
-- strings mean.
use Rattle.std.specs.Prelude.{◌≡◌, ◌⊎◌, ◌<◌, ◌+◌, ◌*◌, ℕ, ℤ, pos, ◌+ℤ◌, ◌-ℤ◌, ◌*ℤ◌, ◌≤ℤ◌, true, false, List, [], ◌∷◌, Some, unsigned_abs}
use Rattle.std.specs.Int.{IsInRange}
use Rattle.zic_base.specs.Fault.{fault_at}
use Rattle.zic_base.specs.State.{Shown}
use Rattle.zic_base.specs.declared.fault.Fault.{Fault}
use Rattle.zic_base.specs.declared.fault.Kind.TheVariants.{NoFooter, PermanentDaylight}
use Rattle.zic_base.specs.declared.fault.Place.{Place}
use Rattle.zic_calendar.specs.Calendar.{days_in_month}
use Rattle.zic_calendar.specs.DayForm.{IsDayOf, last_meant, weekday_before}
use Rattle.zic_calendar.specs.declared.day_form.On.{On}
use Rattle.zic_calendar.specs.declared.day_form.On.TheVariants.{Day, Last, After, Before}
use Rattle.zic_posix.specs.Footer.{TzString, constant}
use Rattle.zic_posix.specs.Meaning.{Means, day_in}
use Rattle.zic_posix.specs.declared.footer.DayRule.{DayRule}
use Rattle.zic_posix.specs.declared.footer.DayRule.TheVariants.{J, M}
use Rattle.zic_posix.specs.declared.footer.Dst.{Dst}
use Rattle.zic_posix.specs.declared.footer.Edge.{Edge}
use Rattle.zic_posix.specs.declared.footer.TheConstants.{MAX_WIDE_HOURS}
use Rattle.zic_rules.specs.Tail.{IsTailBy, HasConstantTail}
use Rattle.zic_rules.specs.declared.tail.TailRule.{TailRule}
use Rattle.zic_states.specs.Change.{IsAfterChanges}
use Rattle.zic_states.specs.End.{IsEnd}
use Rattle.zic_states.specs.Tail.{Alternate}
use Rattle.zic_states.specs.Until.{set_of}
use Rattle.zic_states.specs.Zone.{Zone, Shows}
use Rattle.zic_lines.specs.declared.clock.ClockForm.{ClockForm}
use Rattle.zic_lines.specs.declared.clock.ClockForm.TheVariants.{Wall, Standard, Universal}

-- In this year the form seeks this weekday among seven days, of which this day of the month is the last, counted on past the month's end:
-- zic(8), ON
abbrev pub Seeks : On → ℤ → ℕ → ℕ → ℕ → Type 0
Seeks (Day day) year month weekday last = ⊥
Seeks (Last x) year month weekday last = (weekday ≡ x) × (last ≡ days_in_month year month)
Seeks (After x day) year month weekday last = (weekday ≡ x) × (last ≡ day + 6)
Seeks (Before x day) year month weekday last = (weekday ≡ x) × (last ≡ last_meant year month day)

-- in every year it seeks this weekday among the month's last seven days
abbrev pub SeeksLast : ℕ → On → ℕ → Type 0
SeeksLast month on weekday = (year : ℤ) → Seeks on year month weekday (days_in_month year month)

-- A plain day of a month is `Jn`.
abbrev pub IsPlainDay : On → DayRule → ℤ → Type 0
IsPlainDay on day shift = (of_month number : ℕ) × (on ≡ Day of_month) × (day ≡ J number) × (shift ≡ pos 0)

-- A weekday that is sought in the last seven days of the month in every year is of week 5, however the rule says it.
abbrev pub IsInLastWeek : ℕ → On → DayRule → ℤ → Type 0
IsInLastWeek month on day shift = (weekday : ℕ) × SeeksLast month on weekday × (day ≡ M month 5 weekday) × (shift ≡ pos 0)

-- Any other weekday goes by one of the weeks 1 to 4; week w is the days 7w - 6 to 7w of the month. The seven days among which it is sought
-- lie `shift` days after that week, or before it where `shift` is below 0. The week is the last that begins no later than they do, and
-- week 1 where each begins later.
pub record IsInWeek (month : ℕ) (on : On) (day : DayRule) (shift : ℤ) : Type 0 where
  pub weekday : ℕ
  pub last : ℕ
  pub seeks : (year : ℤ) → Seeks on year month weekday last
  pub not_last_week : SeeksLast month on weekday → ⊥
  pub week : ℕ
  pub is_week : IsInRange 1 4 week
  pub moved : pos last ≡ pos (7 * week) +ℤ shift
  pub not_after : (week ≡ 1) ⊎ (pos 0 ≤ℤ shift)
  pub is_last : (week ≡ 4) ⊎ (shift ≤ℤ pos 6)
  pub says : day ≡ M month week (weekday_before weekday shift)

-- How a string says the day of a rule: in every year the day that the rule names (zic(8), ON) comes `shift` days after the day that the
-- string names (POSIX TZ), or before it where `shift` is below 0. Several pairs of day and shift would do: which one is taken is an own
-- choice.
pub record SaysDay (month : ℕ) (on : On) (day : DayRule) (shift : ℤ) : Type 0 where
  pub means : (year : ℤ) → IsDayOf year month on (day_in year day +ℤ shift)
  pub way : IsPlainDay on day shift ⊎ IsInLastWeek month on day shift ⊎ IsInWeek month on day shift

-- the time of a rule's AT by wall clocks, at this standard offset in seconds east of UT and with
-- this many seconds saved
abbrev pub wall_time : ClockForm → ℤ → ℤ → ℤ → ℤ
wall_time Wall standard saved at = at
wall_time Standard standard saved at = at +ℤ saved
wall_time Universal standard saved at = at +ℤ standard +ℤ saved

-- The edge at which a rule takes over, where this is saved before it: its day, and the time by the wall clocks before it, plus `shift` days.
pub record IsEdgeOf (standard : ℤ) (rule : TailRule) (saved : ℤ) (edge : Edge) : Type 0 where
  pub shift : ℤ
  pub day : SaysDay rule.moment.month rule.moment.on edge.day shift
  pub time : edge.time ≡ wall_time rule.moment.at.form standard saved rule.moment.at.seconds +ℤ (pos 86_400 *ℤ shift)

-- the daylight part by the rule that starts daylight saving time and the one that ends it
pub record IsDaylightBy (standard : ℤ) (starting ending : TailRule) (dst : Dst) : Type 0 where
  pub name : dst.name ≡ starting.name
  pub offset : dst.offset ≡ standard +ℤ starting.saving.seconds
  pub start : IsEdgeOf standard starting ending.saving.seconds dst.start
  pub stop : IsEdgeOf standard ending starting.saving.seconds dst.stop

-- The string is by these two rules. The standard part has the offset and abbreviation that the ending rule begins.
pub record IsByRules (standard : ℤ) (starting ending : TailRule) (f : TzString) : Type 0 where
  pub std : f.std ≡ ending.name
  pub offset : f.offset ≡ standard +ℤ ending.saving.seconds
  pub dst : Dst
  pub has : f.dst ≡ Some dst
  pub daylight : IsDaylightBy standard starting ending dst

-- two rules, in either order, of which one starts daylight saving time and the other ends it
pub record IsPair (tails : List TailRule) (starting ending : TailRule) : Type 0 where
  pub two : (tails ≡ starting ∷ ending ∷ []) ⊎ (tails ≡ ending ∷ starting ∷ [])
  pub daylight : starting.saving.daylight ≡ true
  pub standard : ending.saving.daylight ≡ false

-- the time is within 167:59:59 either way, as far as TZif of version 3 goes
abbrev pub IsWide : Edge → Type 0
IsWide edge = unsigned_abs edge.time < (MAX_WIDE_HOURS + 1) * 3600

-- the edge of a rule is within 167:59:59 either way
abbrev pub HasWideEdge : ℤ → TailRule → ℤ → Type 0
HasWideEdge standard rule saved = (edge : Edge) × IsEdgeOf standard rule saved edge × IsWide edge

-- The state just before the explicit end is for ever: fewer than two rules of the last line's set
-- go on.
pub record IsForEver (zone : Zone) (state : Shown) : Type 0 where
  pub few : HasConstantTail zone
  pub end : ℤ
  pub is_end : IsEnd zone end
  pub shows : Shows zone (end -ℤ pos 1) state

-- Two rules of the last line's set go on for ever, one of each flag, which follow each other in
-- turn, and their edges can be said.
pub record AreInTurn (zone : Zone) (standard : ℤ) (starting ending : TailRule) : Type 0 where
  pub year : ℤ
  pub tails : List TailRule
  pub by : IsTailBy zone standard year tails
  pub pair : IsPair tails starting ending
  pub alternate : Alternate (set_of zone.source.rules by.name) by.last
  pub start : HasWideEdge standard starting ending.saving.seconds
  pub stop : HasWideEdge standard ending starting.saving.seconds

-- the footer of a zone: one standard state for ever, or two rules in turn
abbrev pub IsMade : Zone → TzString → Type 0
IsMade zone f =
    ((state : Shown) × IsForEver zone state × (state.daylight ≡ false) × (f ≡ constant state.name state.offset))
    ⊎ ((standard : ℤ) × (starting ending : TailRule) × AreInTurn zone standard starting ending × IsByRules standard starting ending f)

-- From the last change before the explicit end on, or at every instant if there is none, the zone
-- shows what the footer means.
abbrev pub GoesOn : Zone → TzString → Type 0
GoesOn zone f = (t : ℤ) (state : Shown) → IsAfterChanges zone t → Means f t state → Shows zone t state

-- The zone stays on daylight saving time for ever.
abbrev pub IsPermanentDaylight : Zone → Type 0
IsPermanentDaylight zone = (state : Shown) × IsForEver zone state × (state.daylight ≡ true)

-- No footer says what the zone shows for ever: two or more rules go on, but not two of both flags
-- in turn whose edges can be said.
pub record HasNoFooter (zone : Zone) : Type 0 where
  pub standard : ℤ
  pub year : ℤ
  pub tails : List TailRule
  pub by : IsTailBy zone standard year tails
  pub none : (starting ending : TailRule) → AreInTurn zone standard starting ending → ⊥

-- why a zone, whose Zone line stands at this place, gets no footer
abbrev pub IsFaultOfFooter : Zone → Place → Fault → Type 0
IsFaultOfFooter zone place fault =
    ((fault ≡ fault_at place PermanentDaylight) × IsPermanentDaylight zone)
    ⊎ ((fault ≡ fault_at place NoFooter) × HasNoFooter zone)
