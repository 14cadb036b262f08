use Rattle.std.proofs.Common.{◌≡◌, ℕ, ◌+◌, ◌<◌, ◌≤◌, ℤ, pos, ◌-ℤ◌, ◌≤ℤ◌, inl, inr, List, length, get_or, set, unsigned_abs, subst, ◌∙◌, to_z, of_z, to_z-of_z, w64, FitsSigned, arith}
use Rattle.std.proofs.lemmas.Bool.{cases_lt}
use Rattle.std.proofs.lemmas.Int.{ints}
use Rattle.std.proofs.lemmas.List.{length-set, get_or-set_same, get_or-set_other}
use Rattle.zic_posix.specs.declared.years.TheConstants.{YEARS_OF_KINDS}
use Rattle.zic_posix.specs.code.Span.{IsNear}
use Rattle.zic_posix.specs.code.Years.{edge_second}
use Rattle.zic_posix.proofs.Spans.{near_instant}
use Rattle.zic_posix.proofs.YearKinds.{year_near}
use Rattle.zic_posix.proofs.years.edge_seconds.Goals as goal

year_fits : (year : ℤ) → pos 1970 ≤ℤ year → year ≤ℤ pos 1996 → FitsSigned w64 year
year_fits year from to = omega (arith, ints)

difference_fits : (instant second : ℤ) → IsNear instant → unsigned_abs second ≤ 260_000_000_000 → FitsSigned w64 (to_z w64 (of_z w64 instant) -ℤ to_z w64 (of_z w64 second))
difference_fits instant second near start = omega (arith, ints)

fits_64 : (instant second : ℤ) → IsNear instant → unsigned_abs second ≤ 260_000_000_000 → to_z w64 (of_z w64 (to_z w64 (of_z w64 instant) -ℤ to_z w64 (of_z w64 second))) ≡ instant -ℤ second
fits_64 instant second near start = omega (arith, ints)

-- the table has one place more
one_more : (seconds : List ℤ) (kind : ℕ) (second : ℤ) (value : ℕ → ℤ) → length seconds ≡ 14 → kind < 14 → second ≡ value kind → ((k : ℕ) → k < kind → get_or seconds k (pos 0) ≡ value k)
    → (length (set seconds kind second) ≡ 14) × ((k : ℕ) → k < kind + 1 → get_or (set seconds kind second) k (pos 0) ≡ value k)
one_more seconds kind second value count within is each = (
  length-set seconds kind second ∙ count,
  λ k below. elim (cases_lt k kind) [
    | inl less ↦ get_or-set_other seconds kind k second (pos 0) (λ same. omega (arith, same, less)) ∙ each k less
    | inr not ↦
        let same : kind ≡ k = omega (arith, below, not) in
        subst (λ (j : ℕ). get_or (set seconds kind second) j (pos 0) ≡ value j) same (get_or-set_same seconds kind second (pos 0) (omega (arith, count, within)) ∙ is)
  ],
)

pub overflow_sub-seconds : goal.overflow_sub-seconds
overflow_sub-seconds c =
    let kind = c.loop-kind.kind in
    let year = get_or YEARS_OF_KINDS kind (pos 0) in
    let near = year_near kind c.loop-kind-test.true in
    let fits = year_fits year near.0 near.1 in
    let instant = rw (to_z-of_z c.ranges.offset, to_z-of_z fits) at c.instant_in.ensures in
    let there = near_instant c.args.edge.now c.args.offset year c.requires.edge c.requires.offset (omega (arith, ints, near.0)) (omega (arith, ints, near.1)) in
    difference_fits c.instant_in.result c.new.result.second (rw instant there) c.new.ensures.near

pub loop-kind-preserved : goal.loop-kind-preserved
loop-kind-preserved c =
    let edge = c.args.edge.now in
    let offset = c.args.offset in
    let kind = c.loop-kind.kind in
    let within = c.loop-kind-test.true in
    let year = get_or YEARS_OF_KINDS kind (pos 0) in
    let near = year_near kind within in
    let fits = year_fits year near.0 near.1 in
    let instant = rw (to_z-of_z c.ranges.offset, to_z-of_z fits) at c.instant_in.ensures in
    let start = rw (to_z-of_z fits) at c.new.ensures.second in
    let there = near_instant edge offset year c.requires.edge c.requires.offset (omega (arith, ints, near.0)) (omega (arith, ints, near.1)) in
    let second = fits_64 c.instant_in.result c.new.result.second (rw instant there) c.new.ensures.near in
    let is : c.instant_in.result -ℤ c.new.result.second ≡ edge_second edge offset kind = omega (arith, ints, instant, start) in
    let before = rw (to_z-of_z c.ranges.offset) at c.loop-kind.invariant.1 in
    rw (to_z-of_z c.ranges.offset) (one_more c.loop-kind.seconds kind _ (edge_second edge offset) c.loop-kind.invariant.0 within (second ∙ is) before)
