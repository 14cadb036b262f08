use Rattle.std.proofs.Common.{FitsSigned, w64, to_z-of_z, ap, ◌∙◌, rules}
use Rattle.zic_calendar.specs.Calendar.{day_number}
use Rattle.zic_calendar.specs.Weekday.{first_on_or_after, last_on_or_before}
use Rattle.zic_calendar.specs.DayForm.{form_day}
use Rattle.zic_calendar.proofs.FormLemmas.{form_is, form_near}
use Rattle.zic_calendar.proofs.day_form.day_of.Goals as goal

pub returns-in-Day-clause-value : goal.returns-in-Day-clause-value
unfolding form_day
returns-in-Day-clause-value c =
    let year : FitsSigned w64 c.args.year = c.ranges.year in
    let fits : FitsSigned w64 c.day_number.result = search rules in
    rw c.in-Day.is (to_z-of_z fits ∙ simp to_z-of_z at c.day_number.ensures.value)

pub returns-in-Last-clause-value : goal.returns-in-Last-clause-value
unfolding form_day
returns-in-Last-clause-value c =
    let year : FitsSigned w64 c.args.year = c.ranges.year in
    let start : FitsSigned w64 c.day_number-in-Last.result = search rules in
    let fits : FitsSigned w64 c.last_on_or_before.result = search rules in
    let last = simp to_z-of_z at c.days_in_month.ensures.length in
    let number = simp to_z-of_z at c.day_number-in-Last.ensures.value in
    let found = simp to_z-of_z at c.last_on_or_before.ensures in
    rw c.in-Last.is (to_z-of_z fits ∙ found ∙ ap (last_on_or_before c.in-Last.weekday) (number ∙ ap (day_number c.args.year c.args.month) last))

pub returns-in-Last-clause-meaning : goal.returns-in-Last-clause-meaning
returns-in-Last-clause-meaning c =
    rw (returns-in-Last-clause-value c) (form_is c.args.year c.args.month c.args.on c.requires.fits)

pub returns-in-After-clause-value : goal.returns-in-After-clause-value
unfolding form_day
returns-in-After-clause-value c =
    let year : FitsSigned w64 c.args.year = c.ranges.year in
    let start : FitsSigned w64 c.day_number-in-After.result = search rules in
    let fits : FitsSigned w64 c.first_on_or_after.result = search rules in
    let number = simp to_z-of_z at c.day_number-in-After.ensures.value in
    let found = simp to_z-of_z at c.first_on_or_after.ensures in
    rw c.in-After.is (to_z-of_z fits ∙ found ∙ ap (first_on_or_after c.in-After.weekday) number)

pub returns-in-After-clause-meaning : goal.returns-in-After-clause-meaning
returns-in-After-clause-meaning c =
    rw (returns-in-After-clause-value c) (form_is c.args.year c.args.month c.args.on c.requires.fits)

pub returns-in-Before-clause-value : goal.returns-in-Before-clause-value
unfolding form_day
returns-in-Before-clause-value c =
    let year : FitsSigned w64 c.args.year = c.ranges.year in
    let start : FitsSigned w64 c.day_number-in-Before.result = search rules in
    let fits : FitsSigned w64 c.last_on_or_before-in-Before.result = search rules in
    let from = simp to_z-of_z at c.last_meant-from.ensures in
    let number = simp to_z-of_z at c.day_number-in-Before.ensures.value in
    let found = simp to_z-of_z at c.last_on_or_before-in-Before.ensures in
    rw c.in-Before.is (to_z-of_z fits ∙ found ∙ ap (last_on_or_before c.in-Before.weekday) (number ∙ ap (day_number c.args.year c.args.month) from))

pub returns-in-Before-clause-meaning : goal.returns-in-Before-clause-meaning
returns-in-Before-clause-meaning c =
    rw (returns-in-Before-clause-value c) (form_is c.args.year c.args.month c.args.on c.requires.fits)

pub returns-in-Last-clause-range : goal.returns-in-Last-clause-range
returns-in-Last-clause-range c =
    rw (returns-in-Last-clause-value c) (form_near c.args.year c.args.month c.args.on c.requires.year_in c.requires.month_in c.requires.fits)

pub returns-in-After-clause-range : goal.returns-in-After-clause-range
returns-in-After-clause-range c =
    rw (returns-in-After-clause-value c) (form_near c.args.year c.args.month c.args.on c.requires.year_in c.requires.month_in c.requires.fits)

pub returns-in-Before-clause-range : goal.returns-in-Before-clause-range
returns-in-Before-clause-range c =
    rw (returns-in-Before-clause-value c) (form_near c.args.year c.args.month c.args.on c.requires.year_in c.requires.month_in c.requires.fits)

pub returns-in-Day-clause-range : goal.returns-in-Day-clause-range
returns-in-Day-clause-range c =
    rw (returns-in-Day-clause-value c) (form_near c.args.year c.args.month c.args.on c.requires.year_in c.requires.month_in c.requires.fits)
