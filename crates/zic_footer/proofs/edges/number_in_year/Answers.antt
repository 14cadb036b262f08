use Rattle.std.proofs.Common.{◌≡◌, ◌≤◌, ◌+◌, ◌-◌, ap, arith, ℤ, pos, ◌+ℤ◌, ◌-ℤ◌, to_z, of_z, w64, unsigned_abs}
use Rattle.std.proofs.lemmas.Int.{ints}
use Rattle.zic_calendar.specs.Calendar.{days_of_months}
use Rattle.zic_calendar.proofs.DateLemmas.{day_within_year, days_of_months-zero}
use Rattle.zic_posix.specs.declared.footer.DayRule.TheVariants.{J}
use Rattle.zic_footer.proofs.edges.number_in_year.Goals as goal

-- the number of the code
number_is : (c : goal.After-day_of)
    → to_z w64 (of_z w64 (to_z w64 (of_z w64 (to_z w64 (of_z w64 c.day_of.result) -ℤ to_z w64 (of_z w64 c.day_of-before.result))) +ℤ pos 1))
    ≡ pos (days_of_months (pos 1) (c.args.month - 1) + c.args.day)
number_is c =
    omega (arith, ints, c.day_of.ensures.meaning, c.day_of.ensures.range, c.day_of-before.ensures.meaning, c.day_of-before.ensures.range, days_of_months-zero (pos 1))

within : (c : goal.After-day_of) → days_of_months (pos 1) (c.args.month - 1) + c.args.day ≤ 365
within c = day_within_year (pos 1) c.args.month c.args.day (c.requires.month, c.requires.fits)

pub overflow_cast-result : goal.overflow_cast-result
overflow_cast-result c = let few = within c in rw (number_is c) (omega arith)

pub returns : goal.returns
returns c = ap (λ (z : ℤ). J (unsigned_abs z)) (number_is c)
