-- Where the instant of an UNTIL lies.
use Rattle.std.proofs.Common.{◌≡◌, ℕ, ◌+◌, ◌≤◌, List, Option, Some, None, All, refl, sym, subst, ◌∙◌, arith, ℤ, pos, ◌+ℤ◌, ◌*ℤ◌, ◌<ℤ◌, ◌≤ℤ◌}
use Rattle.std.specs.Prelude.{IfSome, unsigned_abs}
use Rattle.std.specs.Int.{IsInRange}
use Rattle.std.proofs.lemmas.Int.{ints}
use Rattle.std.proofs.lemmas.Option.{same_Some}
use Rattle.zic_calendar.specs.declared.day_form.On.{On}
use Rattle.zic_calendar.specs.declared.day_form.On.TheVariants.{Day, Last, After, Before}
use Rattle.zic_calendar.specs.Calendar.{day_number}
use Rattle.zic_calendar.specs.DayForm.{FormFits, form_day, IsNearMonth}
use Rattle.zic_calendar.proofs.DateLemmas.{first_has}
use Rattle.zic_calendar.proofs.FormLemmas.{form_bounds}
use Rattle.zic_lines.specs.declared.clock.ClockForm.{ClockForm}
use Rattle.zic_lines.specs.declared.clock.ClockForm.TheVariants.{Wall, Standard as ByStandard, Universal}
use Rattle.zic_lines.specs.declared.rule_line.Moment.{Moment}
use Rattle.zic_lines.specs.declared.rule_line.Rule.{Rule}
use Rattle.zic_lines.specs.declared.rules.Rules.{Rules}
use Rattle.zic_lines.specs.declared.rules.Rules.TheVariants.{Standard, Amount, Set}
use Rattle.zic_lines.specs.declared.until.Until.{Until}
use Rattle.zic_lines.specs.declared.zone_line.ZoneLine.{ZoneLine}
use Rattle.zic_source.specs.Sound.{IsSoundRule, IsSoundLine, IsSoundUntil, IsSoundMoment, AreSoundRules, IsWithinDay}
use Rattle.zic_base.proofs.Elements.{all_got}
use Rattle.zic_states.specs.Occurrence.{RuleSet, Occurrence, nominal_second, year_second}
use Rattle.zic_states.specs.Order.{instant_by}
use Rattle.zic_states.proofs.Bounds.{moment_to}
use Rattle.zic_states.specs.Until.{IsUntil, IsSavedAtUntil, IsStage, saved_after, set_of}
use Rattle.zic_rules.specs.code.End.{IsInYears}
use Rattle.zic_rules.proofs.Years.{year_second-is, first_of_year, years_rise, not_later}

near_month : (y : ℤ) (m : ℕ) (f : On) (x : ℤ) → IsNearMonth y m f x → day_number y m 1 ≤ℤ (x +ℤ pos 6)
near_month y m (Day d) x h = omega (arith, ints)
near_month y m (Last w) x h = omega (arith, ints)
near_month y m (After w d) x h = omega (arith, ints)
near_month y m (Before w d) x h = omega (arith, ints)

nominal_second-is : (y : ℤ) (moment : Moment) → nominal_second y moment ≡ (pos 86_400 *ℤ form_day y moment.month moment.on) +ℤ moment.at.seconds
unfolding nominal_second
nominal_second-is y moment = refl

second_from : (first day at : ℤ) → first ≤ℤ (day +ℤ pos 6) → unsigned_abs at ≤ 1_080_000 → (pos 86_400 *ℤ first) ≤ℤ (((pos 86_400 *ℤ day) +ℤ at) +ℤ pos 1_641_600)
second_from first day at h time = omega (arith, ints)

-- a moment of a year comes less than 19 days before the year
moment_from : (year : ℤ) (moment : Moment) → IsSoundMoment moment → FormFits year moment.month moment.on → year_second year ≤ℤ (nominal_second year moment +ℤ pos 1_641_600)
moment_from year moment sound fits =
    let day = form_day year moment.month moment.on in
    let near = near_month year moment.month moment.on day (form_bounds year moment.month moment.on fits) in
    let first = first_of_year year moment.month 1 (first_has year moment.month sound.month.0 sound.month.1) in
    let days : day_number year 1 1 ≤ℤ (day +ℤ pos 6) = omega (arith, ints, near, first) in
    rw (year_second-is year, nominal_second-is year moment) (second_from (day_number year 1 1) day moment.at.seconds days sound.at)

-- a clock's reading lies within 48 hours of the nominal second
near_by : (form : ClockForm) (offset saved second : ℤ) → IsWithinDay offset → IsWithinDay saved
    → (second ≤ℤ (instant_by form offset saved second +ℤ pos 172_800)) × (instant_by form offset saved second ≤ℤ (second +ℤ pos 172_800))
near_by Universal offset saved second h k = (omega (arith, ints), omega (arith, ints))
near_by ByStandard offset saved second h k = (omega (arith, ints), omega (arith, ints))
near_by Wall offset saved second h k = (omega (arith, ints), omega (arith, ints))

saved_within : (set : RuleSet) → All IsSoundRule set.rules → (b : Option Occurrence) → IsStage set b → IsWithinDay (saved_after b)
saved_within set sound None is = omega arith
saved_within set sound (Some o) is = let rule = all_got IsSoundRule set.rules o.number o.rule sound is.member.numbered in rule.saving

saved_at_until : (rules : List Rule) (offset : ℤ) (until : Until) (says : Rules) (saved : ℤ) → All IsSoundRule rules → AreSoundRules rules says
    → IsSavedAtUntil rules offset until says saved → IsWithinDay saved
saved_at_until rules offset until Standard saved sound known is = subst IsWithinDay (sym is) (omega arith)
saved_at_until rules offset until (Amount saving) saved sound known is = subst IsWithinDay (sym is) known
saved_at_until rules offset until (Set name) saved sound known (b, read, is) =
    subst IsWithinDay (sym is) (saved_within (set_of rules name) sound b read.is)

-- 21 days outside the year of the UNTIL
pub record IsNearUntil (until : Until) (t : ℤ) : Type 0 where
  pub year : IsInRange 1 9000 until.year
  pub from : year_second (pos until.year) ≤ℤ (t +ℤ pos 1_814_400)
  pub to : t <ℤ (year_second (pos until.year +ℤ pos 1) +ℤ pos 1_814_400)

near_line : (rules : List Rule) (line : ZoneLine) (t : ℤ) → All IsSoundRule rules → IsSoundLine rules line → (is : IsUntil rules line t) → IsSoundUntil is.until → IsNearUntil is.until t
near_line rules line t sound line_sound is until_sound =
    let until = is.until in
    let second = nominal_second (pos until.year) until.moment in
    let saved = saved_at_until rules line.offset until line.rules is.saved sound line_sound.rules_known is.is_saved in
    let near = near_by until.moment.at.form line.offset is.saved second line_sound.offset saved in
    let from = moment_from (pos until.year) until.moment until_sound.moment until_sound.fits in
    let to = moment_to (pos until.year) (pos until.year +ℤ pos 1) until.moment refl until_sound.moment until_sound.fits in
    let same = is.is in
    record { year = until_sound.year; from = omega (arith, ints, near, from, same); to = omega (arith, ints, near, to, same) }

pub near_until : (rules : List Rule) (line : ZoneLine) (until : Until) (t : ℤ) → All IsSoundRule rules → IsSoundLine rules line → line.until ≡ Some until → IsUntil rules line t → IsNearUntil until t
near_until rules line until t sound line_sound has is =
    let same : is.until ≡ until = same_Some is.until until (sym is.has ∙ has) in
    let until_sound = subst (λ (o : Option Until). IfSome o IsSoundUntil) is.has line_sound.until in
    subst (λ (u : Until). IsNearUntil u t) same (near_line rules line t sound line_sound is until_sound)

pub in_years : (until : Until) (t : ℤ) → IsNearUntil until t → IsInYears 9002 t
in_years until t near =
    let low = years_rise (pos 0) (pos until.year) (omega (arith, ints, near.year)) in
    let high = not_later (pos until.year +ℤ pos 1) (pos 9001) (omega (arith, ints, near.year)) in
    let last = years_rise (pos 9001) (pos 9002) (omega (arith, ints)) in
    (omega (arith, ints, low, near.from), omega (arith, ints, high, last, near.to))

-- the occurrences to a year after that of the UNTIL reach two days past it
pub near_enough : (until : Until) (t : ℤ) → IsNearUntil until t → (t +ℤ pos 172_800) ≤ℤ year_second (pos (until.year + 2))
near_enough until t near =
    let next = years_rise (pos until.year +ℤ pos 1) (pos (until.year + 2)) (omega (arith, ints)) in
    omega (arith, ints, next, near.to)
