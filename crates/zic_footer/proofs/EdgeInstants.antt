-- The edges of a made string come at the instants of its rules.
use Rattle.std.proofs.Common.{◌≡◌, arith, ℤ, pos, ◌+ℤ◌, ◌-ℤ◌, ◌*ℤ◌}
use Rattle.std.proofs.lemmas.Int.{ints}
use Rattle.zic_calendar.specs.DayForm.{form_day}
use Rattle.zic_lines.specs.declared.clock.ClockForm.{ClockForm}
use Rattle.zic_lines.specs.declared.clock.ClockForm.TheVariants.{Wall, Standard, Universal}
use Rattle.zic_states.specs.Occurrence.{nominal_second}
use Rattle.zic_states.specs.Order.{instant_by}
use Rattle.zic_rules.specs.declared.tail.TailRule.{TailRule}
use Rattle.zic_posix.specs.Meaning.{day_in, local_second, start_in, stop_in}
use Rattle.zic_footer.specs.Making.{wall_time}
use Rattle.zic_footer.specs.code.Edges.{day_of_form, edge_of, daylight_part, by_rules}
use Rattle.zic_footer.specs.code.Turns.{IsSoundTail}
use Rattle.zic_footer.proofs.DayForms.{day_of_form-right}

-- the instant of a rule in a year, where the other rule's saving holds before it
abbrev pub edge : ℤ → TailRule → TailRule → ℤ → ℤ
edge standard rule other year =
    instant_by rule.moment.at.form standard other.saving.seconds (nominal_second year rule.moment)

-- an edge's time is read with what is saved before it
read_back : (form : ClockForm) (standard saved at day shift named : ℤ) → day +ℤ shift ≡ named
    → ((pos 86_400 *ℤ day) +ℤ (wall_time form standard saved at +ℤ (pos 86_400 *ℤ shift))) -ℤ (standard +ℤ saved)
    ≡ instant_by form standard saved ((pos 86_400 *ℤ named) +ℤ at)
read_back Wall standard saved at day shift named e = omega (arith, ints)
read_back Standard standard saved at day shift named e = omega (arith, ints)
read_back Universal standard saved at day shift named e = omega (arith, ints)

edge_at : (standard : ℤ) (rule other : TailRule) (year : ℤ) → IsSoundTail standard rule
    → local_second year (edge_of standard rule other.saving.seconds) -ℤ (standard +ℤ other.saving.seconds) ≡ edge standard rule other year
unfolding nominal_second
edge_at standard rule other year sound =
    let moment = rule.moment in
    read_back moment.at.form standard other.saving.seconds moment.at.seconds (day_in year (day_of_form moment.month moment.on).day)
    (day_of_form moment.month moment.on).shift (form_day year moment.month moment.on)
    (day_of_form-right moment.month moment.on sound.yearly.fits year)

-- the start of the string by two rules, and its end
pub start_at : (standard : ℤ) (starting ending : TailRule) (year : ℤ) → IsSoundTail standard starting
    → start_in (by_rules standard starting ending).offset (daylight_part standard starting ending) year ≡ edge standard starting ending year
start_at standard starting ending year sound = edge_at standard starting ending year sound

pub stop_at : (standard : ℤ) (starting ending : TailRule) (year : ℤ) → IsSoundTail standard ending
    → stop_in (daylight_part standard starting ending) year ≡ edge standard ending starting year
stop_at standard starting ending year sound = edge_at standard ending starting year sound
