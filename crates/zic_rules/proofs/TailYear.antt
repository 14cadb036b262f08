-- The year after which only rules that go on for ever occur, by the explicit end.
use Rattle.std.proofs.Common.{◌≡◌, ℕ, zero, suc, List, Some, arith}
use Rattle.std.specs.Prelude.{ℤ, pos, ◌+ℤ◌, ◌<ℤ◌, ◌≤ℤ◌}
use Rattle.std.proofs.lemmas.Int.{ints, clamps, by_lt_z}
use Rattle.zic_states.specs.Occurrence.{year_second}
use Rattle.zic_states.proofs.LastNamed.{named_year}
use Rattle.zic_source.specs.Sound.{IsSoundSource}
use Rattle.zic_states.specs.End.{IsYearOf, IsLastYear}
use Rattle.zic_states.specs.Until.{set_of}
use Rattle.zic_states.specs.Zone.{Zone}
use Rattle.zic_rules.specs.code.End.{IsInYears}
use Rattle.zic_rules.proofs.Years.{years_rise, not_later}
use Rattle.zic_rules.proofs.Walks.{start_in_years}

-- the instant at which a year begins is of that year
pub begins_own : (t y z : ℤ) → t ≡ year_second y → IsYearOf t z → z ≡ y
begins_own t y z is of = by_lt_z z y
    (λ lt. let later = not_later (z +ℤ pos 1) y (omega (arith, ints, lt)) in absurd (omega (arith, ints, is, later, of.not_over)))
    (λ ge. by_lt_z y z
    (λ gt. let rise = years_rise y z gt in absurd (omega (arith, ints, is, rise, of.begun)))
    (λ le. omega (arith, ints, ge, le)))

-- and lies among the years up to 9999, where the year does
pub begun_in_years : (t y : ℤ) → t ≡ year_second y → pos 0 ≤ℤ y → y <ℤ pos 9999 → IsInYears 9999 t
begun_in_years t y is from to =
    let low = not_later (pos 0) y from in
    let high = years_rise y (pos 9999) to in
    (omega (arith, ints, is, low), omega (arith, ints, is, high))

-- ---- the last year that is named

year_before : (t y : ℤ) (year : ℕ) → IsYearOf t y → t <ℤ year_second (pos year) → y <ℤ pos year
year_before t y year of lt = by_lt_z y (pos year) (λ less. less)
    (λ ge. let later = not_later (pos year) y ge in let begun = of.begun in absurd (omega (arith, ints)))

pub named_in_range : (zone : Zone) (i : ℕ) (name : List ℕ) (year : ℤ) → IsSoundSource zone.source → IsLastYear zone i name year
    → (pos 1 ≤ℤ year) × (year ≤ℤ pos 9001)
named_in_range zone zero name year sound (named, last, is) =
    let range = named_year (set_of zone.source.rules name) named sound.rules last in
    (omega (arith, ints, range.0), omega (arith, ints, range.1))
named_in_range zone (suc i) name year sound (named, last, start, ends, of_start, of, is) =
    let range = named_year (set_of zone.source.rules name) named sound.rules last in
    let near = start_in_years zone (suc i) (Some start) sound ends in
    let before = year_before start of_start 9002 of near.1 in
    (omega (arith, ints, clamps, range.0), omega (arith, ints, clamps, range.1, before))
