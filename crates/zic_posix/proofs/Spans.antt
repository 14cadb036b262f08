-- The instants between two edges that follow each other.
use Rattle.std.proofs.Common.{◌≡◌, ◌<◌, ◌≤◌, ◌⊎◌, inl, inr, Option, Some, None, refl, sym, subst, arith, ℤ, pos, negsuc, ◌+ℤ◌, ◌-ℤ◌, ◌*ℤ◌, ◌<ℤ◌, ◌≤ℤ◌, unsigned_abs, FitsSigned, w64}
use Rattle.std.specs.Prelude.{int_le, IsSomeAnd}
use Rattle.std.specs.Int.{int_max, int_min, int_rem_euclid, saturate_signed}
use Rattle.std.proofs.lemmas.Bool.{cases_lt}
use Rattle.std.proofs.lemmas.Int.{ints, clamps, by_lt_z}
use Rattle.zic_base.specs.declared.constants.TheConstants.{FARTHEST_FILE_OFFSET}
use Rattle.zic_calendar.specs.DayForm.{IsNearSupportedDay}
use Rattle.zic_posix.specs.declared.footer.Dst.{Dst}
use Rattle.zic_posix.specs.declared.footer.Edge.{Edge}
use Rattle.zic_posix.specs.declared.span.Instants.{Instants}
use Rattle.zic_posix.specs.declared.span.TheConstants.{MIN_INSTANT, MAX_INSTANT}
use Rattle.zic_posix.specs.declared.span.Around.{Around}
use Rattle.zic_posix.specs.declared.span.Phase.{Phase}
use Rattle.zic_posix.specs.Footer.{TzString}
use Rattle.zic_posix.specs.Grammar.{IsEdge, IsOffset, IsDaylight}
use Rattle.zic_posix.specs.Instants.{Includes, AreBetween}
use Rattle.zic_posix.specs.Meaning.{day_in, start_in, stop_in, IsEdgeInstant, HasEdgeAt}
use Rattle.zic_posix.specs.code.Span.{IsAround, IsNear, IsPhase}
use Rattle.zic_posix.specs.code.State.{instant_in, IsLastInstant}
use Rattle.zic_posix.proofs.Days.{day_in-near}
use Rattle.zic_posix.proofs.Edges.{offset_within, daylight_within, instant_in-no_later}
use Rattle.zic_posix.proofs.Lasts.{last_of}
use Rattle.zic_posix.proofs.Meanings.{decided}
use Rattle.zic_posix.proofs.Cycles.{AreYears, cycles_between, edge_moves, edge_moves_back}

-- ---- one edge

near_second : (day time offset : ℤ) → IsNearSupportedDay day → unsigned_abs time < 604_800 → unsigned_abs offset ≤ 93_599 → IsNear (((pos 86_400 *ℤ day) +ℤ time) -ℤ offset)
near_second day time offset near small within = omega (arith, ints)

pub near_instant : (edge : Edge) (offset year : ℤ) → IsEdge edge → unsigned_abs offset ≤ FARTHEST_FILE_OFFSET → pos 1968 ≤ℤ year → year ≤ℤ pos 2371 → IsNear (instant_in edge offset year)
near_instant edge offset year is within from to =
    near_second (day_in year edge.day) edge.time offset (day_in-near year edge.day (omega (arith, ints), omega (arith, ints)) is.day) is.time within

module _ (edge : Edge) (offset t : ℤ) (is : IsEdge edge) (within : unsigned_abs offset ≤ FARTHEST_FILE_OFFSET) (round : Around) (a : IsAround (instant_in edge offset) t round) where
  -- in every year the edge has come at the last of the two, or hasn't come before the next
  outside : (other : ℤ) → (instant_in edge offset other ≤ℤ round.last) ⊎ (round.next ≤ℤ instant_in edge offset other)
  outside other =
      by_lt_z a.year other
      (λ lt. inr (rw a.next (instant_in-no_later edge offset (a.year +ℤ pos 1) other is (omega (arith, ints)))))
      (λ ge. inl (rw a.last (instant_in-no_later edge offset other a.year is ge)))

  is_last : IsLastInstant (instant_in edge offset) t round.last
  is_last = record {
    year = a.year;
    is = a.last;
    is_last = last_of edge offset t a.year (a.year +ℤ pos 1) is refl (rw a.last at a.not_after) (rw a.next at a.after);
  }

  last_near : IsNear round.last
  last_near = rw a.last (near_instant edge offset a.year is within a.year_from (omega (arith, ints, a.year_to)))

  next_near : IsNear round.next
  next_near = rw a.next (near_instant edge offset (a.year +ℤ pos 1) is within (omega (arith, ints, a.year_from)) (omega (arith, ints, a.year_to)))

-- ---- both edges

module _ (standard : ℤ) (dst : Dst) (t : ℤ) (offset : IsOffset standard) (daylight : IsDaylight standard dst)
    (start : Around) (started : IsAround (start_in standard dst) t start) (stop : Around) (stopped : IsAround (stop_in dst) t stop) where
  -- no edge comes between the later of the last two and the sooner of the next two
  none_between : (from until : ℤ) → from ≡ int_max start.last stop.last → until ≡ int_min start.next stop.next
      → (u : ℤ) → from <ℤ u → u <ℤ until → IsEdgeInstant standard dst u → ⊥
  none_between from until is_from is_until u after before (y, inl is) =
      elim (outside dst.start standard t daylight.start (offset_within standard offset) start started y) [
        | inl come ↦ omega (arith, ints, clamps)
        | inr to_come ↦ omega (arith, ints, clamps)
      ]
  none_between from until is_from is_until u after before (y, inr is) =
      elim (outside dst.stop dst.offset t daylight.stop (daylight_within standard dst offset daylight) stop stopped y) [
        | inl come ↦ omega (arith, ints, clamps)
        | inr to_come ↦ omega (arith, ints, clamps)
      ]

  from_edge : (from : ℤ) → from ≡ int_max start.last stop.last → IsEdgeInstant standard dst from
  from_edge from is =
      by_lt_z start.last stop.last
      (λ lt. (stopped.year, inr (omega (arith, ints, clamps, stopped.last))))
      (λ ge. (started.year, inl (omega (arith, ints, clamps, started.last))))

  until_edge : (until : ℤ) → until ≡ int_min start.next stop.next → IsEdgeInstant standard dst until
  until_edge until is =
      by_lt_z start.next stop.next
      (λ lt. (started.year +ℤ pos 1, inl (omega (arith, ints, clamps, started.next))))
      (λ ge. (stopped.year +ℤ pos 1, inr (omega (arith, ints, clamps, stopped.next))))

  pub phase_of : (phase : Phase) → phase.is_daylight ≡ int_le stop.last start.last → phase.from ≡ int_max start.last stop.last → phase.until ≡ int_min start.next stop.next → IsPhase standard dst t phase
  phase_of phase day from until =
      let start_within = offset_within standard offset in
      let stop_within = daylight_within standard dst offset daylight in
      let start_last = last_near dst.start standard t daylight.start start_within start started in
      let stop_last = last_near dst.stop dst.offset t daylight.stop stop_within stop stopped in
      let start_next = next_near dst.start standard t daylight.start start_within start started in
      let stop_next = next_near dst.stop dst.offset t daylight.stop stop_within stop stopped in
      record {
        in_force = rw day (decided standard dst t start.last stop.last
            (is_last dst.start standard t daylight.start start_within start started) (is_last dst.stop dst.offset t daylight.stop stop_within stop stopped));
        from_edge = from_edge phase.from from;
        until_edge = until_edge phase.until until;
        not_after = omega (arith, ints, clamps, from, started.not_after, stopped.not_after);
        after = omega (arith, ints, clamps, until, started.after, stopped.after);
        none = none_between phase.from phase.until from until;
        from_near = omega (arith, ints, clamps, from);
        until_near = omega (arith, ints, clamps, until);
      }

-- ---- all of 64 bits

-- an instant that isn't after one of 64 bits, cut to 64 bits, is itself or the first of all
cut_below : (t instant first : ℤ) → FitsSigned w64 t → instant ≤ℤ t → first ≡ saturate_signed w64 instant → (first ≡ instant) ⊎ ((first ≡ MIN_INSTANT) × (instant <ℤ first))
cut_below t (pos n) first fits before is = inl (omega (arith, ints))
cut_below t (negsuc n) first fits before is =
    elim (cases_lt n 9_223_372_036_854_775_808) [
      | inl less ↦ inl (omega (arith, ints))
      | inr not ↦ inr (omega (arith, ints), omega (arith, ints))
    ]

-- and one that isn't before it, itself or the last of all
cut_above : (t instant last : ℤ) → FitsSigned w64 t → t ≤ℤ instant → last ≡ saturate_signed w64 instant → (last ≡ instant) ⊎ ((last ≡ MAX_INSTANT) × (last <ℤ instant))
cut_above t (pos n) last fits after is =
    elim (cases_lt n 9_223_372_036_854_775_808) [
      | inl less ↦ inl (omega (arith, ints))
      | inr not ↦ inr (omega (arith, ints), omega (arith, ints))
    ]
cut_above t (negsuc n) last fits after is = inl (omega (arith, ints))

-- ---- from the cycle to any instant

module _ (f : TzString) (dst : Dst) (t in_cycle : ℤ) (phase : Phase) (instants : Instants) (has : Some dst ≡ f.dst) (fits : FitsSigned w64 t)
    (remainder : in_cycle ≡ int_rem_euclid t (pos 12_622_780_800)) (is : IsPhase f.offset dst in_cycle phase)
    (first_is : instants.first ≡ saturate_signed w64 (t -ℤ (in_cycle -ℤ phase.from)))
    (last_is : instants.last ≡ saturate_signed w64 (t +ℤ (phase.until -ℤ in_cycle -ℤ pos 1))) where
  cut_first : (instants.first ≡ t -ℤ (in_cycle -ℤ phase.from)) ⊎ ((instants.first ≡ MIN_INSTANT) × ((t -ℤ (in_cycle -ℤ phase.from)) <ℤ instants.first))
  cut_first = cut_below t (t -ℤ (in_cycle -ℤ phase.from)) instants.first fits (omega (arith, ints, is.not_after)) first_is

  cut_last : (instants.last ≡ t +ℤ (phase.until -ℤ in_cycle -ℤ pos 1)) ⊎ ((instants.last ≡ MAX_INSTANT) × (instants.last <ℤ (t +ℤ (phase.until -ℤ in_cycle -ℤ pos 1))))
  cut_last = cut_above t (t +ℤ (phase.until -ℤ in_cycle -ℤ pos 1)) instants.last fits (omega (arith, ints, is.after)) last_is

  first_from : (t -ℤ (in_cycle -ℤ phase.from)) ≤ℤ instants.first
  first_from = elim cut_first [ inl same ↦ omega (arith, ints) | inr cut ↦ omega (arith, ints, cut.1) ]

  last_to : instants.last ≤ℤ (t +ℤ (phase.until -ℤ in_cycle -ℤ pos 1))
  last_to = elim cut_last [ inl same ↦ omega (arith, ints) | inr cut ↦ omega (arith, ints, cut.1) ]

  pub requested : Includes instants t
  requested = record {
    from = elim cut_first [ inl same ↦ omega (arith, ints, is.not_after) | inr cut ↦ omega (arith, ints, cut.0) ];
    to = elim cut_last [ inl same ↦ omega (arith, ints, is.after) | inr cut ↦ omega (arith, ints, cut.0) ];
  }

  years : AreYears (t -ℤ in_cycle)
  years = rw remainder (cycles_between t)

  edge_of : (u : ℤ) → IsEdgeInstant f.offset dst u → HasEdgeAt f u
  edge_of u edge = subst (λ (o : Option Dst). IsSomeAnd o (λ dst. IsEdgeInstant f.offset dst u)) has edge

  edge_from : (u : ℤ) → HasEdgeAt f u → IsEdgeInstant f.offset dst u
  edge_from u edge = subst (λ (o : Option Dst). IsSomeAnd o (λ dst. IsEdgeInstant f.offset dst u)) (sym has) edge

  pub between_edges : AreBetween (HasEdgeAt f) instants
  between_edges = record {
    first = elim cut_first [
      | inl same ↦ inr (edge_of instants.first (edge_moves years.0 (t -ℤ in_cycle) years.1 f.offset dst phase.from instants.first (omega (arith, ints)) is.from_edge))
      | inr cut ↦ inl cut.0
    ];
    last = elim cut_last [
      | inl same ↦ inr (edge_of (instants.last +ℤ pos 1) (edge_moves years.0 (t -ℤ in_cycle) years.1 f.offset dst phase.until (instants.last +ℤ pos 1) (omega (arith, ints)) is.until_edge))
      | inr cut ↦ inl cut.0
    ];
    none = λ u after before edge.
        let moved = u -ℤ (t -ℤ in_cycle) in
        is.none moved (omega (arith, ints, first_from)) (omega (arith, ints, last_to))
        (edge_moves_back years.0 (t -ℤ in_cycle) years.1 f.offset dst moved u (omega (arith, ints)) (edge_from u edge));
  }

-- a string without a daylight part has no edge at all
pub without_edges : (f : TzString) (instants : Instants) → None ≡ f.dst → instants.first ≡ MIN_INSTANT → instants.last ≡ MAX_INSTANT → AreBetween (HasEdgeAt f) instants
without_edges f instants none first last = record {
  first = inl first;
  last = inl last;
  none = λ u after before edge. subst (λ (o : Option Dst). IsSomeAnd o (λ dst. IsEdgeInstant f.offset dst u)) (sym none) edge;
}
