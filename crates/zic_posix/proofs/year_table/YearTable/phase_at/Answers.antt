use Rattle.std.proofs.Common.{◌≡◌, true, false, ℤ, pos, ◌+ℤ◌, ◌-ℤ◌, ◌<ℤ◌, ◌≤ℤ◌, refl, ◌∙◌, to_z, of_z, to_z-of_z, w64, FitsSigned, arith, rules}
use Rattle.std.specs.Prelude.{int_le, int_lt}
use Rattle.std.proofs.lemmas.Int.{ints}
use borrow.Author.Differences.{le-true, le-false, lt-true, lt-false}
use Rattle.zic_posix.specs.code.State.{IsYearOfCycle}
use Rattle.zic_posix.proofs.YearParts.{in_first_part, in_last_part, in_middle_part}
use Rattle.zic_posix.proofs.year_table.YearTable.phase_at.Goals as goal

not_after : (a b : ℤ) → int_le a b ≡ true → a ≤ℤ b
not_after a b e = omega (arith, ints, le-true a b e)

after : (a b : ℤ) → int_le a b ≡ false → b <ℤ a
after a b e = omega (arith, ints, le-false a b e)

before : (a b : ℤ) → int_lt a b ≡ true → a <ℤ b
before a b e = omega (arith, ints, lt-true a b e)

not_before : (a b : ℤ) → int_lt a b ≡ false → b ≤ℤ a
not_before a b e = omega (arith, ints, lt-false a b e)

year_less : (year : ℤ) → IsYearOfCycle year → to_z w64 (of_z w64 (to_z w64 (of_z w64 year) -ℤ pos 1)) ≡ year -ℤ pos 1
year_less year range = omega (arith, ints, range.0, range.1)

year_more : (year : ℤ) → IsYearOfCycle year → to_z w64 (of_z w64 (to_z w64 (of_z w64 year) +ℤ pos 1)) ≡ year +ℤ pos 1
year_more year range = omega (arith, ints, range.0, range.1)

same_test : (a b : ℤ) → FitsSigned w64 a → FitsSigned w64 b → int_le (to_z w64 (of_z w64 a)) (to_z w64 (of_z w64 b)) ≡ int_le a b
same_test a b fits others = rw (to_z-of_z fits, to_z-of_z others) refl

pub returns-then-t-first : goal.returns-then-t-first
returns-then-t-first c = λ standard dst offset daylight is.
    let t = c.args.t in
    let year = c.year_of-year.result in
    let old = c.edges_in-before.result in
    let year_fits : FitsSigned w64 year = search rules in
    let first_fits : FitsSigned w64 c.first.result = search rules in
    let last_fits : FitsSigned w64 c.last.result = search rules in
    let until_fits : FitsSigned w64 c.first-then-t-first.result = search rules in
    let start_fits : FitsSigned w64 old.start = search rules in
    let stop_fits : FitsSigned w64 old.stop = search rules in
    let here = rw (to_z-of_z c.ranges.t) at c.year_of-year.ensures.year in
    let range = c.year_of-year.ensures.range in
    let are = rw (to_z-of_z year_fits) at c.edges_in-edges.ensures in
    let are_old = rw (year_less year range) at c.edges_in-before.ensures in
    let early = before t c.first.result (rw (to_z-of_z c.ranges.t, to_z-of_z first_fits) at c.if-t-first.true) in
    in_first_part c.args.self.now are.starts_inside are.stops_inside standard dst offset daylight is t year here range c.edges_in-edges.result are _ old are_old
    (rw c.first.ensures at early) (same_test old.stop old.start stop_fits start_fits) (to_z-of_z last_fits ∙ c.last.ensures) (to_z-of_z until_fits ∙ c.first-then-t-first.ensures)

pub returns-then-last-t : goal.returns-then-last-t
returns-then-last-t c = λ standard dst offset daylight is.
    let t = c.args.t in
    let year = c.year_of-year.result in
    let edges = c.edges_in-edges.result in
    let year_fits : FitsSigned w64 year = search rules in
    let last_fits : FitsSigned w64 c.last-2.result = search rules in
    let from_fits : FitsSigned w64 c.last-then-last-t.result = search rules in
    let until_fits : FitsSigned w64 c.first-then-last-t.result = search rules in
    let start_fits : FitsSigned w64 edges.start = search rules in
    let stop_fits : FitsSigned w64 edges.stop = search rules in
    let here = rw (to_z-of_z c.ranges.t) at c.year_of-year.ensures.year in
    let range = c.year_of-year.ensures.range in
    let are = rw (to_z-of_z year_fits) at c.edges_in-edges.ensures in
    let are_next = rw (year_more year range) at c.edges_in-after.ensures in
    let late = not_after c.last-2.result t (rw (to_z-of_z last_fits, to_z-of_z c.ranges.t) at c.if-last-t.true) in
    in_last_part c.args.self.now are.starts_inside are.stops_inside standard dst offset daylight is t year here range edges are _ c.edges_in-after.result are_next
    (rw c.last-2.ensures at late) (same_test edges.stop edges.start stop_fits start_fits) (to_z-of_z from_fits ∙ c.last-then-last-t.ensures) (to_z-of_z until_fits ∙ c.first-then-last-t.ensures)

pub returns : goal.returns
returns c = λ standard dst offset daylight is.
    let t = c.args.t in
    let year = c.year_of-year.result in
    let edges = c.edges_in-edges.result in
    let year_fits : FitsSigned w64 year = search rules in
    let first_fits : FitsSigned w64 c.first.result = search rules in
    let last_fits : FitsSigned w64 c.last-2.result = search rules in
    let from_fits : FitsSigned w64 c.first-2.result = search rules in
    let until_fits : FitsSigned w64 c.last-3.result = search rules in
    let start_fits : FitsSigned w64 edges.start = search rules in
    let here = rw (to_z-of_z c.ranges.t) at c.year_of-year.ensures.year in
    let range = c.year_of-year.ensures.range in
    let are = rw (to_z-of_z year_fits) at c.edges_in-edges.ensures in
    let late = not_before t c.first.result (rw (to_z-of_z c.ranges.t, to_z-of_z first_fits) at c.if-t-first.false) in
    let early = after c.last-2.result t (rw (to_z-of_z last_fits, to_z-of_z c.ranges.t) at c.if-last-t.false) in
    in_middle_part c.args.self.now are.starts_inside are.stops_inside standard dst offset daylight is t year here range edges are _
    (rw c.first.ensures at late) (rw c.last-2.ensures at early) (same_test edges.start t start_fits c.ranges.t) (to_z-of_z from_fits ∙ c.first-2.ensures) (to_z-of_z until_fits ∙ c.last-3.ensures)
