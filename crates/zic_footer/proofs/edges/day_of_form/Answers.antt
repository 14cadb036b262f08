use Rattle.std.proofs.Common.{subst, arith, pos, true, false}
use Rattle.std.proofs.lemmas.Int.{ints}
use Rattle.zic_calendar.specs.declared.day_form.On.{On}
use Rattle.zic_calendar.specs.DayForm.{FormFits}
use Rattle.zic_calendar.proofs.FormLemmas.{month_length_bounds}
use Rattle.zic_footer.proofs.edges.day_of_form.Goals as goal

pub number_in_year-requires-clause-fits : goal.number_in_year-requires-clause-fits
number_in_year-requires-clause-fits c = subst (λ (f : On). FormFits (pos 1) c.args.month f) c.in-Day.is (c.requires.fits (pos 1))

pub by_week-requires-clause-high : goal.by_week-requires-clause-high
by_week-requires-clause-high c =
    let fits = subst (λ (f : On). FormFits (pos 1) c.args.month f) c.in-After.is (c.requires.fits (pos 1)) in
    omega (arith, ints, c.from.ensures, fits.1, month_length_bounds false c.args.month)

pub by_week-requires-else-day-days_in_month-2-clause-high : goal.by_week-requires-else-day-days_in_month-2-clause-high
by_week-requires-else-day-days_in_month-2-clause-high c =
    let fits = subst (λ (f : On). FormFits (pos 1) c.args.month f) c.in-Before.is (c.requires.fits (pos 1)) in
    omega (arith, ints, c.from-else-day-days_in_month-2.ensures, fits.1, month_length_bounds true c.args.month)
