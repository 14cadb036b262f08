use Rattle.std.proofs.Common.{◌≡◌, ℕ, ◌≤◌, ◌∙◌, sym, ap, to_z-of_z, to_z, of_z, w64, ℤ, pos, ◌+ℤ◌, ◌-ℤ◌, arith}
use Rattle.std.proofs.lemmas.Int.{ints}
use Rattle.zic_calendar.specs.Calendar.{day_number}
use Rattle.zic_calendar.specs.DayForm.{form_day, IsNearSupportedDay}
use Rattle.zic_posix.specs.Grammar.{IsDay}
use Rattle.zic_posix.specs.declared.footer.DayRule.TheVariants.{J, N}
use Rattle.zic_posix.proofs.Days.{day_in-near, before_march, from_march, from_zero}
use Rattle.zic_posix.proofs.state.day_in.Goals as goal

-- days that are added fit
fits_64 : (first : ℤ) (n less : ℕ) → IsNearSupportedDay first → n ≤ 365 → less ≤ 60 → to_z w64 (of_z w64 (to_z w64 (of_z w64 (to_z w64 (of_z w64 first) +ℤ to_z w64 (of_z w64 (pos n)))) -ℤ pos less)) ≡ first +ℤ pos n -ℤ pos less
fits_64 first n less near small below = omega (arith, ints)

sum_fits_64 : (first : ℤ) (n : ℕ) → IsNearSupportedDay first → n ≤ 365 → to_z w64 (of_z w64 (to_z w64 (of_z w64 first) +ℤ to_z w64 (of_z w64 (pos n)))) ≡ first +ℤ pos n
sum_fits_64 first n near small = omega (arith, ints)

pub returns-in-J-clause-value : goal.returns-in-J-clause-value
unfolding form_day
returns-in-J-clause-value c =
    let n = c.in-J.number in
    let limits : IsDay (J n) = rw c.in-J.is at c.requires.day in
    let first : c.day_of.result ≡ day_number c.args.year 1 1 = c.day_of.ensures.value ∙ ap (λ (y : ℤ). day_number y 1 1) (to_z-of_z c.ranges.year) in
    rw (c.in-J.is, c.from.ensures) (fits_64 c.day_of.result n 1 c.day_of.ensures.range limits.1 (omega arith)
    ∙ ap (λ (d : ℤ). d +ℤ pos n -ℤ pos 1) first ∙ sym (before_march c.args.year n c.if-number-lt60.true))

pub returns-in-J-2-clause-value : goal.returns-in-J-2-clause-value
unfolding form_day
returns-in-J-2-clause-value c =
    let n = c.in-J-2.number in
    let limits : IsDay (J n) = rw c.in-J-2.is at c.requires.day in
    let one : c.in-J.number ≡ n = let both : J c.in-J.number ≡ J n = sym c.in-J.is ∙ c.in-J-2.is in cc in
    let first : c.day_of-in-J-2.result ≡ day_number c.args.year 3 1 = c.day_of-in-J-2.ensures.value ∙ ap (λ (y : ℤ). day_number y 3 1) (to_z-of_z c.ranges.year) in
    rw (c.in-J-2.is, c.from-in-J-2.ensures) (fits_64 c.day_of-in-J-2.result n 60 c.day_of-in-J-2.ensures.range limits.1 (omega arith)
    ∙ ap (λ (d : ℤ). d +ℤ pos n -ℤ pos 60) first ∙ sym (from_march c.args.year n (omega (arith, c.if-number-lt60.false))))

pub returns-in-N-clause-value : goal.returns-in-N-clause-value
unfolding form_day
returns-in-N-clause-value c =
    let n = c.in-N.number in
    let limits : IsDay (N n) = rw c.in-N.is at c.requires.day in
    let first : c.day_of-in-N.result ≡ day_number c.args.year 1 1 = c.day_of-in-N.ensures.value ∙ ap (λ (y : ℤ). day_number y 1 1) (to_z-of_z c.ranges.year) in
    rw (c.in-N.is, c.from-in-N.ensures) (sum_fits_64 c.day_of-in-N.result n c.day_of-in-N.ensures.range limits
    ∙ ap (λ (d : ℤ). d +ℤ pos n) first ∙ sym (from_zero c.args.year n))

pub returns-in-J-clause-range : goal.returns-in-J-clause-range
returns-in-J-clause-range c = rw (returns-in-J-clause-value c) (day_in-near c.args.year c.args.day c.requires.year c.requires.day)

pub returns-in-J-2-clause-range : goal.returns-in-J-2-clause-range
returns-in-J-2-clause-range c = rw (returns-in-J-2-clause-value c) (day_in-near c.args.year c.args.day c.requires.year c.requires.day)

pub returns-in-N-clause-range : goal.returns-in-N-clause-range
returns-in-N-clause-range c = rw (returns-in-N-clause-value c) (day_in-near c.args.year c.args.day c.requires.year c.requires.day)
