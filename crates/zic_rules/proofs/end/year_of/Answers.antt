use Rattle.std.proofs.Common.{◌≡◌, arith, subst, sym, ℤ, pos, ◌<ℤ◌, neg_ℤ, to_z, of_z, w64}
use Rattle.std.specs.Prelude.{unsigned_abs}
use Rattle.std.proofs.lemmas.Int.{ints}
use Rattle.zic_states.specs.End.{IsYearOf}
use Rattle.zic_rules.proofs.Years.{day_of_instant, year_0, year_of_day}
use Rattle.zic_rules.proofs.end.year_of.Goals as goal

pub returns-then-day-lt-FIRST_DAY : goal.returns-then-day-lt-FIRST_DAY
returns-then-day-lt-FIRST_DAY c =
    let day = day_of_instant c.args.instant c.div_euclid-day.result c.requires c.div_euclid-day.ensures in
    let lt : c.div_euclid-day.result <ℤ neg_ℤ (pos 719_162) = grind (arith, ints, day.fits, c.if-day-lt-FIRST_DAY.true) in
    year_0 c.args.instant c.div_euclid-day.result c.requires.0 day.to lt

pub civil-requires-clause-day_in : goal.civil-requires-clause-day_in
civil-requires-clause-day_in c =
    let day = day_of_instant c.args.instant c.div_euclid-day.result c.requires c.div_euclid-day.ensures in
    (grind (arith, ints, day.fits, c.if-day-lt-FIRST_DAY.false), omega (arith, ints, day.fits, day.below))

pub returns : goal.returns
returns c =
    let day = day_of_instant c.args.instant c.div_euclid-day.result c.requires c.div_euclid-day.ensures in
    let civil = c.civil.result in
    let year : pos (unsigned_abs (to_z w64 (of_z w64 civil.year))) ≡ civil.year = omega (arith, ints, c.civil.ensures.year) in
    let of = year_of_day c.args.instant (to_z w64 (of_z w64 c.div_euclid-day.result)) civil.year civil.month civil.day
    (omega (arith, ints, day.fits, day.from)) (omega (arith, ints, day.fits, day.to)) c.civil.ensures.date.0 c.civil.ensures.date.1 in
    subst (λ (y : ℤ). IsYearOf c.args.instant y) (sym year) of
