-- The time in force at an instant of a year none of whose edges is outside the year.
use Rattle.std.proofs.Common.{◌≡◌, List, refl, sym, ◌∙◌, arith, ℤ, pos, ◌+ℤ◌, ◌-ℤ◌, ◌<ℤ◌, ◌≤ℤ◌}
use Rattle.std.specs.Prelude.{int_le}
use Rattle.std.specs.Int.{int_max, int_min}
use Rattle.std.proofs.lemmas.Int.{ints, clamps, by_lt_z}
use Rattle.zic_posix.specs.declared.footer.Dst.{Dst}
use Rattle.zic_posix.specs.declared.footer.Edge.{Edge}
use Rattle.zic_posix.specs.declared.span.Around.{Around}
use Rattle.zic_posix.specs.declared.span.Phase.{Phase}
use Rattle.zic_posix.specs.declared.years.YearEdges.{YearEdges}
use Rattle.zic_posix.specs.declared.year_table.YearTable.{YearTable}
use Rattle.zic_posix.specs.Grammar.{IsEdge, IsOffset, IsDaylight}
use Rattle.zic_posix.specs.Laws.{year_second, IsInYear}
use Rattle.zic_posix.specs.Meaning.{start_in, stop_in}
use Rattle.zic_posix.specs.code.Span.{IsAround, IsPhase}
use Rattle.zic_posix.specs.code.State.{instant_in, IsYearOfCycle}
use Rattle.zic_posix.specs.code.Inside.{AreInside}
use Rattle.zic_posix.specs.code.Years.{kind_of, AreEdgeSeconds, IsYearTable, AreEdgesIn}
use Rattle.zic_posix.proofs.Edges.{years_apart}
use Rattle.zic_posix.proofs.YearKinds.{kind_known, instant_by_kind, inside_at}
use Rattle.zic_posix.proofs.Meanings.{above, not_above}
use Rattle.zic_posix.proofs.Spans.{phase_of}

-- the edge is inside its year
pub record IsInside (edge : ℤ → ℤ) (year : ℤ) : Type 0 where
  pub from : year_second year ≤ℤ edge year
  pub to : edge year <ℤ year_second (year +ℤ pos 1)

own_year : (edge : Edge) (offset : ℤ) (seconds : List ℤ) → IsEdge edge → AreEdgeSeconds edge offset seconds → AreInside seconds → (year : ℤ) → IsInside (instant_in edge offset) year
own_year edge offset seconds is are inside year =
    let at = instant_by_kind edge offset seconds year is are in
    let within = inside_at seconds (kind_of year) inside (kind_known year) in
    record {
      from = omega (arith, ints, at, within.0);
      to = omega (arith, ints, at, within.1, years_apart year (year +ℤ pos 1) refl);
    }

abbrev round : ℤ → ℤ → Around
round last next = record { last = last; next = next }

module _ (edge : Edge) (offset t year : ℤ) (own : (y : ℤ) → IsInside (instant_in edge offset) y) (here : IsInYear year t) (range : IsYearOfCycle year) where
  gone : instant_in edge offset year ≤ℤ t → IsAround (instant_in edge offset) t (round (instant_in edge offset year) (instant_in edge offset (year +ℤ pos 1)))
  gone come = record {
    year = year;
    year_from = omega (arith, ints, range.0);
    year_to = omega (arith, ints, range.1);
    last = refl;
    next = refl;
    not_after = come;
    after = omega (arith, ints, here.to, (own (year +ℤ pos 1)).from);
  }

  to_come : t <ℤ instant_in edge offset year → IsAround (instant_in edge offset) t (round (instant_in edge offset (year -ℤ pos 1)) (instant_in edge offset year))
  to_come early =
      let same : (year -ℤ pos 1) +ℤ pos 1 ≡ year = omega (arith, ints) in
      record {
        year = year -ℤ pos 1;
        year_from = omega (arith, ints, range.0);
        year_to = omega (arith, ints, range.1);
        last = refl;
        next = rw same refl;
        not_after = omega (arith, ints, here.from, rw same at (own (year -ℤ pos 1)).to);
        after = early;
      }

-- ---- the three parts of a year

module _ (standard : ℤ) (dst : Dst) (t year : ℤ) (offset : IsOffset standard) (daylight : IsDaylight standard dst)
    (starts_own : (y : ℤ) → IsInside (start_in standard dst) y) (stops_own : (y : ℤ) → IsInside (stop_in dst) y) (here : IsInYear year t) (range : IsYearOfCycle year) (phase : Phase) where
  before_both : t <ℤ int_min (start_in standard dst year) (stop_in dst year) → phase.is_daylight ≡ int_le (stop_in dst (year -ℤ pos 1)) (start_in standard dst (year -ℤ pos 1))
      → phase.from ≡ int_max (start_in standard dst (year -ℤ pos 1)) (stop_in dst (year -ℤ pos 1)) → phase.until ≡ int_min (start_in standard dst year) (stop_in dst year)
      → IsPhase standard dst t phase
  before_both early day from until =
      phase_of standard dst t offset daylight (round (start_in standard dst (year -ℤ pos 1)) (start_in standard dst year))
      (to_come dst.start standard t year starts_own here range (omega (arith, ints, clamps)))
      (round (stop_in dst (year -ℤ pos 1)) (stop_in dst year))
      (to_come dst.stop dst.offset t year stops_own here range (omega (arith, ints, clamps))) phase day from until

  after_both : int_max (start_in standard dst year) (stop_in dst year) ≤ℤ t → phase.is_daylight ≡ int_le (stop_in dst year) (start_in standard dst year)
      → phase.from ≡ int_max (start_in standard dst year) (stop_in dst year) → phase.until ≡ int_min (start_in standard dst (year +ℤ pos 1)) (stop_in dst (year +ℤ pos 1))
      → IsPhase standard dst t phase
  after_both late day from until =
      phase_of standard dst t offset daylight (round (start_in standard dst year) (start_in standard dst (year +ℤ pos 1)))
      (gone dst.start standard t year starts_own here range (omega (arith, ints, clamps)))
      (round (stop_in dst year) (stop_in dst (year +ℤ pos 1)))
      (gone dst.stop dst.offset t year stops_own here range (omega (arith, ints, clamps))) phase day from until

  -- an edge of the year before isn't after one of this year
  stop_before_start : stop_in dst (year -ℤ pos 1) ≤ℤ start_in standard dst year
  stop_before_start =
      let same : (year -ℤ pos 1) +ℤ pos 1 ≡ year = omega (arith, ints) in
      omega (arith, ints, (starts_own year).from, rw same at (stops_own (year -ℤ pos 1)).to)

  start_before_stop : start_in standard dst (year -ℤ pos 1) <ℤ stop_in dst year
  start_before_stop =
      let same : (year -ℤ pos 1) +ℤ pos 1 ≡ year = omega (arith, ints) in
      omega (arith, ints, (stops_own year).from, rw same at (starts_own (year -ℤ pos 1)).to)

  between_both : int_min (start_in standard dst year) (stop_in dst year) ≤ℤ t → t <ℤ int_max (start_in standard dst year) (stop_in dst year)
      → phase.is_daylight ≡ int_le (start_in standard dst year) t
      → phase.from ≡ int_min (start_in standard dst year) (stop_in dst year) → phase.until ≡ int_max (start_in standard dst year) (stop_in dst year)
      → IsPhase standard dst t phase
  between_both late early day from until =
      by_lt_z (start_in standard dst year) (stop_in dst year)
      (λ lt.
      let come : start_in standard dst year ≤ℤ t = omega (arith, ints, clamps) in
      let next : start_in standard dst year <ℤ start_in standard dst (year +ℤ pos 1) = omega (arith, ints, (starts_own year).to, (starts_own (year +ℤ pos 1)).from) in
      let stops : stop_in dst year <ℤ start_in standard dst (year +ℤ pos 1) = omega (arith, ints, (stops_own year).to, (starts_own (year +ℤ pos 1)).from) in
      phase_of standard dst t offset daylight (round (start_in standard dst year) (start_in standard dst (year +ℤ pos 1)))
      (gone dst.start standard t year starts_own here range come)
      (round (stop_in dst (year -ℤ pos 1)) (stop_in dst year))
      (to_come dst.stop dst.offset t year stops_own here range (omega (arith, ints, clamps))) phase
      (day ∙ not_above (start_in standard dst year) t come ∙ sym (not_above (stop_in dst (year -ℤ pos 1)) (start_in standard dst year) stop_before_start))
      (omega (arith, ints, clamps, from, stop_before_start))
      (omega (arith, ints, clamps, until, stops)))
      (λ ge.
      let come : stop_in dst year ≤ℤ t = omega (arith, ints, clamps) in
      let to_start : t <ℤ start_in standard dst year = omega (arith, ints, clamps) in
      let starts : start_in standard dst year <ℤ stop_in dst (year +ℤ pos 1) = omega (arith, ints, (starts_own year).to, (stops_own (year +ℤ pos 1)).from) in
      phase_of standard dst t offset daylight (round (start_in standard dst (year -ℤ pos 1)) (start_in standard dst year))
      (to_come dst.start standard t year starts_own here range to_start)
      (round (stop_in dst year) (stop_in dst (year +ℤ pos 1)))
      (gone dst.stop dst.offset t year stops_own here range come) phase
      (day ∙ above (start_in standard dst year) t to_start ∙ sym (above (stop_in dst year) (start_in standard dst (year -ℤ pos 1)) start_before_stop))
      (omega (arith, ints, clamps, from, start_before_stop))
      (omega (arith, ints, clamps, until, starts)))

-- ---- by a table

module _ (table : YearTable) (starts : AreInside table.starts) (stops : AreInside table.stops) (standard : ℤ) (dst : Dst) (offset : IsOffset standard) (daylight : IsDaylight standard dst)
    (is : IsYearTable standard dst table) where
  pub starts_inside : (y : ℤ) → IsInside (start_in standard dst) y
  starts_inside = own_year dst.start standard table.starts daylight.start is.starts starts

  pub stops_inside : (y : ℤ) → IsInside (stop_in dst) y
  stops_inside = own_year dst.stop dst.offset table.stops daylight.stop is.stops stops

  start_is : (year : ℤ) (edges : YearEdges) → AreEdgesIn table year edges → edges.start ≡ start_in standard dst year
  start_is year edges are = are.start ∙ instant_by_kind dst.start standard table.starts year daylight.start is.starts

  stop_is : (year : ℤ) (edges : YearEdges) → AreEdgesIn table year edges → edges.stop ≡ stop_in dst year
  stop_is year edges are = are.stop ∙ instant_by_kind dst.stop dst.offset table.stops year daylight.stop is.stops

  module _ (t year : ℤ) (here : IsInYear year t) (range : IsYearOfCycle year) (edges : YearEdges) (are : AreEdgesIn table year edges) (phase : Phase) where
    pub in_first_part : (before : YearEdges) → AreEdgesIn table (year -ℤ pos 1) before → t <ℤ int_min edges.start edges.stop
        → phase.is_daylight ≡ int_le before.stop before.start → phase.from ≡ int_max before.start before.stop → phase.until ≡ int_min edges.start edges.stop
        → IsPhase standard dst t phase
    in_first_part before are_before early day from until =
        let start = start_is year edges are in
        let stop = stop_is year edges are in
        let old_start = start_is (year -ℤ pos 1) before are_before in
        let old_stop = stop_is (year -ℤ pos 1) before are_before in
        before_both standard dst t year offset daylight starts_inside stops_inside here range phase
        (rw (start, stop) at early) (rw (old_start, old_stop) at day) (rw (old_start, old_stop) at from) (rw (start, stop) at until)

    pub in_last_part : (after : YearEdges) → AreEdgesIn table (year +ℤ pos 1) after → int_max edges.start edges.stop ≤ℤ t
        → phase.is_daylight ≡ int_le edges.stop edges.start → phase.from ≡ int_max edges.start edges.stop → phase.until ≡ int_min after.start after.stop
        → IsPhase standard dst t phase
    in_last_part after are_after late day from until =
        let start = start_is year edges are in
        let stop = stop_is year edges are in
        let new_start = start_is (year +ℤ pos 1) after are_after in
        let new_stop = stop_is (year +ℤ pos 1) after are_after in
        after_both standard dst t year offset daylight starts_inside stops_inside here range phase
        (rw (start, stop) at late) (rw (start, stop) at day) (rw (start, stop) at from) (rw (new_start, new_stop) at until)

    pub in_middle_part : int_min edges.start edges.stop ≤ℤ t → t <ℤ int_max edges.start edges.stop
        → phase.is_daylight ≡ int_le edges.start t → phase.from ≡ int_min edges.start edges.stop → phase.until ≡ int_max edges.start edges.stop
        → IsPhase standard dst t phase
    in_middle_part late early day from until =
        let start = start_is year edges are in
        let stop = stop_is year edges are in
        between_both standard dst t year offset daylight starts_inside stops_inside here range phase
        (rw (start, stop) at late) (rw (start, stop) at early) (rw start at day) (rw (start, stop) at from) (rw (start, stop) at until)
