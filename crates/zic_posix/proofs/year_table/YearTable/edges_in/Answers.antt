use Rattle.std.proofs.Common.{◌≡◌, ℕ, ◌≤◌, ℤ, pos, ◌+ℤ◌, ◌<ℤ◌, ◌≤ℤ◌, unsigned_abs, List, get_or, refl, to_z, of_z, to_z-of_z, w64, arith, rules}
use Rattle.std.proofs.lemmas.Int.{ints}
use Rattle.zic_posix.specs.code.Inside.{AreInside}
use Rattle.zic_posix.specs.code.Span.{IsNear}
use Rattle.zic_posix.proofs.YearKinds.{inside_at}
use Rattle.zic_posix.proofs.year_table.YearTable.edges_in.Goals as goal

-- the seconds fit
fits_64 : (second inside : ℤ) → unsigned_abs second ≤ 260_000_000_000 → pos 0 ≤ℤ inside → inside <ℤ pos 31_536_000
    → to_z w64 (of_z w64 (to_z w64 (of_z w64 second) +ℤ to_z w64 (of_z w64 inside))) ≡ second +ℤ inside
fits_64 second inside near from to = omega (arith, ints)

near_edge : (second inside : ℤ) → unsigned_abs second ≤ 260_000_000_000 → pos 0 ≤ℤ inside → inside <ℤ pos 31_536_000 → IsNear (second +ℤ inside)
near_edge second inside near from to = omega (arith, ints)

by_kind : (seconds : List ℤ) (second start : ℤ) (kind known : ℕ) → second ≡ start → kind ≡ known → second +ℤ get_or seconds kind (pos 0) ≡ start +ℤ get_or seconds known (pos 0)
by_kind seconds second start kind known same of_kind = rw (same, of_kind) refl

pub returns : goal.returns
returns c =
    let table = c.args.self.now in
    let start = rw (to_z-of_z c.ranges.year) at c.new-start.ensures in
    let second = c.new-start.result.second in
    let kind = c.new-start.result.kind in
    let starts : AreInside table.starts = search rules in
    let stops : AreInside table.stops = search rules in
    let of_start = inside_at table.starts kind starts start.known in
    let of_stop = inside_at table.stops kind stops start.known in
    rw (fits_64 second (get_or table.starts kind (pos 0)) start.near of_start.0 of_start.1, fits_64 second (get_or table.stops kind (pos 0)) start.near of_stop.0 of_stop.1)
    (record {
      start = by_kind table.starts second _ kind _ start.second start.kind;
      stop = by_kind table.stops second _ kind _ start.second start.kind;
      starts_inside = starts;
      stops_inside = stops;
      start_near = near_edge second (get_or table.starts kind (pos 0)) start.near of_start.0 of_start.1;
      stop_near = near_edge second (get_or table.stops kind (pos 0)) start.near of_stop.0 of_stop.1;
    })
