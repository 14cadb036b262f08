use Rattle.std.proofs.Common.{◌≡◌, ℕ, ◌≤◌, true, false, ℤ, pos, ◌+ℤ◌, ◌-ℤ◌, ◌<ℤ◌, ◌≤ℤ◌, refl, ◌∙◌, ap, to_z, of_z, to_z-of_z, w64, FitsSigned, arith, rules}
use Rattle.std.specs.Prelude.{int_le}
use Rattle.std.proofs.lemmas.Int.{ints}
use borrow.Author.Differences.{le-true, le-false}
use Rattle.zic_posix.specs.code.State.{IsYearOfCycle, instant_in}
use Rattle.zic_posix.proofs.Lasts.{edge_to_come, edge_gone}
use Rattle.zic_posix.proofs.span.edges_around.Goals as goal

not_after : (instant t : ℤ) → int_le instant t ≡ true → instant ≤ℤ t
not_after instant t e = omega (arith, ints, le-true instant t e)

after : (instant t : ℤ) → int_le instant t ≡ false → t <ℤ instant
after instant t e = omega (arith, ints, le-false instant t e)

year_more : (year : ℤ) → IsYearOfCycle year → to_z w64 (of_z w64 (to_z w64 (of_z w64 year) +ℤ pos 1)) ≡ year +ℤ pos 1
year_more year range = omega (arith, ints, range.0, range.1)

year_less : (year : ℤ) (k : ℕ) → IsYearOfCycle year → k ≤ 2 → to_z w64 (of_z w64 (to_z w64 (of_z w64 year) -ℤ pos k)) ≡ year -ℤ pos k
year_less year k range small = omega (arith, ints, range.0, range.1)

pub returns-then-latest-t : goal.returns-then-latest-t
returns-then-latest-t c =
    let edge = c.args.edge.now in
    let year = c.args.year in
    let range = c.requires.range in
    let latest_fits : FitsSigned w64 c.instant_in-latest.result = search rules in
    let next_fits : FitsSigned w64 c.instant_in.result = search rules in
    let latest = rw (to_z-of_z c.ranges.offset, to_z-of_z c.ranges.year) at c.instant_in-latest.ensures in
    let next = rw (to_z-of_z c.ranges.offset, year_more year range) at c.instant_in.ensures in
    let to_come = edge_to_come edge c.args.offset c.args.t year (year +ℤ pos 1) c.requires.edge c.requires.offset refl c.requires.year in
    rw (to_z-of_z latest_fits, to_z-of_z next_fits) (record {
      year = year;
      year_from = omega (arith, ints, range.0);
      year_to = range.1;
      last = latest;
      next = next;
      not_after = not_after c.instant_in-latest.result c.args.t (rw (to_z-of_z latest_fits, to_z-of_z c.ranges.t) at c.if-latest-t.true);
      after = rw next to_come;
    })

pub returns-then-before-t : goal.returns-then-before-t
returns-then-before-t c =
    let edge = c.args.edge.now in
    let year = c.args.year in
    let range = c.requires.range in
    let latest_fits : FitsSigned w64 c.instant_in-latest.result = search rules in
    let before_fits : FitsSigned w64 c.instant_in-before.result = search rules in
    let latest = rw (to_z-of_z c.ranges.offset, to_z-of_z c.ranges.year) at c.instant_in-latest.ensures in
    let before = rw (to_z-of_z c.ranges.offset, year_less year 1 range (omega arith)) at c.instant_in-before.ensures in
    let same : year ≡ (year -ℤ pos 1) +ℤ pos 1 = omega (arith, ints) in
    rw (to_z-of_z latest_fits, to_z-of_z before_fits) (record {
      year = year -ℤ pos 1;
      year_from = omega (arith, ints, range.0);
      year_to = omega (arith, ints, range.1);
      last = before;
      next = latest ∙ ap (instant_in edge c.args.offset) same;
      not_after = not_after c.instant_in-before.result c.args.t (rw (to_z-of_z before_fits, to_z-of_z c.ranges.t) at c.if-before-t.true);
      after = after c.instant_in-latest.result c.args.t (rw (to_z-of_z latest_fits, to_z-of_z c.ranges.t) at c.if-latest-t.false);
    })

pub returns : goal.returns
returns c =
    let edge = c.args.edge.now in
    let year = c.args.year in
    let range = c.requires.range in
    let before_fits : FitsSigned w64 c.instant_in-before.result = search rules in
    let first_fits : FitsSigned w64 c.instant_in-2.result = search rules in
    let before = rw (to_z-of_z c.ranges.offset, year_less year 1 range (omega arith)) at c.instant_in-before.ensures in
    let first = rw (to_z-of_z c.ranges.offset, year_less year 2 range (omega arith)) at c.instant_in-2.ensures in
    let same : year -ℤ pos 1 ≡ (year -ℤ pos 2) +ℤ pos 1 = omega (arith, ints) in
    let gone = edge_gone edge c.args.offset c.args.t year (year -ℤ pos 2) c.requires.edge c.requires.offset (omega (arith, ints)) c.requires.year in
    rw (to_z-of_z before_fits, to_z-of_z first_fits) (record {
      year = year -ℤ pos 2;
      year_from = omega (arith, ints, range.0);
      year_to = omega (arith, ints, range.1);
      last = first;
      next = before ∙ ap (instant_in edge c.args.offset) same;
      not_after = rw first gone;
      after = after c.instant_in-before.result c.args.t (rw (to_z-of_z before_fits, to_z-of_z c.ranges.t) at c.if-before-t.false);
    })
