use Rattle.std.proofs.Common.{◌≡◌, ap, ◌∙◌, arith, ℤ, pos, ◌+ℤ◌, ◌-ℤ◌, ◌*ℤ◌, to_z, of_z, w32, unsigned_abs}
use Rattle.std.specs.Int.{int_div_euclid, int_rem_euclid}
use Rattle.std.proofs.lemmas.Int.{ints}
use Rattle.zic_calendar.specs.DayForm.{week_of, days_into_week, weekday_before}
use Rattle.zic_posix.specs.declared.footer.DayRule.TheVariants.{M}
use Rattle.zic_footer.proofs.DayForms.{week_of-range, few_weeks, held, shift_is_small}
use Rattle.zic_footer.proofs.edges.by_week.Goals as goal

-- the week of the code
week_is : (c : goal.After-rem_euclid) → c.clamp-week.result ≡ pos (week_of c.args.day)
week_is c =
    let day = c.args.day in
    let before : to_z w32 (of_z w32 (to_z w32 (of_z w32 day) -ℤ pos 1)) ≡ day -ℤ pos 1 = omega (arith, ints, c.requires.low, c.requires.high) in
    let weeks : c.div_euclid.result ≡ int_div_euclid (day -ℤ pos 1) (pos 7) = c.div_euclid.ensures ∙ ap (λ (t : ℤ). int_div_euclid t (pos 7)) before in
    let few = few_weeks day c.requires.low c.requires.high in
    let next : to_z w32 (of_z w32 (to_z w32 (of_z w32 c.div_euclid.result) +ℤ pos 1)) ≡ int_div_euclid (day -ℤ pos 1) (pos 7) +ℤ pos 1 = omega (arith, ints, weeks, few) in
    c.clamp-week.ensures.value ∙ held day _ next

shift_is : (c : goal.After-rem_euclid)
    → to_z w32 (of_z w32 (to_z w32 (of_z w32 c.args.day) -ℤ to_z w32 (of_z w32 (to_z w32 (of_z w32 (pos 7 *ℤ to_z w32 (of_z w32 c.clamp-week.result))) -ℤ pos 6)))) ≡ days_into_week c.args.day
shift_is c = omega (arith, ints, week_is c, week_of-range c.args.day, c.requires.low, c.requires.high)

pub returns-clause-day : goal.returns-clause-day
returns-clause-day c =
    let day = c.args.day in
    let small = shift_is_small day c.requires.low c.requires.high in
    let shift = shift_is c in
    let week : unsigned_abs (to_z w32 (of_z w32 c.clamp-week.result)) ≡ week_of day = omega (arith, ints, week_is c, week_of-range day) in
    let back : to_z w32 (of_z w32 (to_z w32 (of_z w32 c.from.result) -ℤ to_z w32 (of_z w32 (to_z w32 (of_z w32 day) -ℤ to_z w32 (of_z w32 (to_z w32 (of_z w32 (pos 7 *ℤ to_z w32 (of_z w32 c.clamp-week.result))) -ℤ pos 6))))))
    ≡ pos c.args.weekday -ℤ days_into_week day = omega (arith, ints, shift, small, c.from.ensures, c.ranges.weekday) in
    let remainder : c.rem_euclid.result ≡ int_rem_euclid (pos c.args.weekday -ℤ days_into_week day) (pos 7) = c.rem_euclid.ensures.value ∙ ap (λ (t : ℤ). int_rem_euclid t (pos 7)) back in
    let weekday : unsigned_abs (to_z w32 (of_z w32 c.rem_euclid.result)) ≡ weekday_before c.args.weekday (days_into_week day) = omega (arith, ints, remainder, c.rem_euclid.ensures.upper_bound) in
    λ k. M c.args.month (week k) (weekday k)

pub returns-clause-shift : goal.returns-clause-shift
returns-clause-shift c = shift_is c

pub returns-clause-range : goal.returns-clause-range
returns-clause-range c =
    let small = shift_is_small c.args.day c.requires.low c.requires.high in
    let shift = shift_is c in
    (omega (arith, ints, shift, small), omega (arith, ints, shift, small))
