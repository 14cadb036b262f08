-- What a string means: one state at every instant.
use Rattle.std.proofs.Common.{◌≡◌, true, false, inl, inr, Option, Some, None, refl, sym, ◌∙◌, arith, ℤ, ◌<ℤ◌, ◌≤ℤ◌, MatchBool}
use Rattle.std.specs.Prelude.{int_le, IsSomeAnd}
use Rattle.std.proofs.lemmas.Int.{ints, by_lt_z}
use Rattle.zic_base.specs.State.{Shown}
use Rattle.zic_posix.specs.declared.footer.Dst.{Dst}
use Rattle.zic_posix.specs.declared.span.Instants.{Instants}
use Rattle.zic_posix.specs.Footer.{TzString}
use Rattle.zic_posix.specs.Grammar.{IsTzString}
use Rattle.zic_posix.specs.Instants.{Includes, AreBetween}
use Rattle.zic_posix.specs.Meaning.{start_in, stop_in, IsDaylightAt, IsStandardAt, standard_state, daylight_state, MeansBy, Means, IsEdgeInstant, HasEdgeAt, MeansThroughout}
use Rattle.zic_posix.specs.Laws.{IsLastEdge}
use Rattle.zic_posix.specs.code.State.{IsLastInstant}
use Rattle.zic_posix.proofs.Edges.{daylight_is, offset_within, daylight_within}
use Rattle.zic_posix.proofs.Lasts.{last_near, year_exists}

-- daylight saving time and standard time never hold at once
never_both : (standard : ℤ) (dst : Dst) (t : ℤ) → IsDaylightAt standard dst t → IsStandardAt standard dst t → ⊥
never_both standard dst t day night =
    let no_later = day.last night.year night.stopped in
    let earlier = night.last day.year day.started in
    omega (arith, ints)

only_by : (f : TzString) (o : Option Dst) (t : ℤ) (a b : Shown) → MeansBy f o t a → MeansBy f o t b → a ≡ b
only_by f None t a b p q = p ∙ sym q
only_by f (Some dst) t a b (inl p) (inl q) = p.1 ∙ sym q.1
only_by f (Some dst) t a b (inl p) (inr q) = absurd (never_both f.offset dst t p.0 q.0)
only_by f (Some dst) t a b (inr p) (inl q) = absurd (never_both f.offset dst t q.0 p.0)
only_by f (Some dst) t a b (inr p) (inr q) = p.1 ∙ sym q.1

pub means_only : (f : TzString) (t : ℤ) (a b : Shown) → Means f t a → Means f t b → a ≡ b
means_only f t a b p q = only_by f f.dst t a b p q

-- the last start and the last end decide
daylight_from : (standard : ℤ) (dst : Dst) (t a b : ℤ) → IsLastEdge (start_in standard dst) t a → IsLastEdge (stop_in dst) t b → stop_in dst b ≤ℤ start_in standard dst a → IsDaylightAt standard dst t
daylight_from standard dst t a b start stop h =
    record { year = a; started = start.not_after; last = λ other early. omega (arith, ints, stop.last other early) }

standard_from : (standard : ℤ) (dst : Dst) (t a b : ℤ) → IsLastEdge (start_in standard dst) t a → IsLastEdge (stop_in dst) t b → start_in standard dst a <ℤ stop_in dst b → IsStandardAt standard dst t
standard_from standard dst t a b start stop h =
    record { year = b; stopped = stop.not_after; last = λ other early. omega (arith, ints, start.last other early) }

pub not_above : (a b : ℤ) → a ≤ℤ b → int_le a b ≡ true
not_above a b h = grind (arith, ints)

pub above : (a b : ℤ) → b <ℤ a → int_le a b ≡ false
above a b h = grind (arith, ints)

-- the later of the last start and the last end decides, and at a tie the start
pub decided : (standard : ℤ) (dst : Dst) (t start stop : ℤ) → IsLastInstant (start_in standard dst) t start → IsLastInstant (stop_in dst) t stop → MatchBool (int_le stop start) (IsDaylightAt standard dst t) (IsStandardAt standard dst t)
decided standard dst t start stop started stopped =
    by_lt_z start stop
    (λ lt. rw (above stop start lt) (standard_from standard dst t started.year stopped.year started.is_last stopped.is_last (omega (arith, ints, started.is, stopped.is))))
    (λ ge. rw (not_above stop start ge) (daylight_from standard dst t started.year stopped.year started.is_last stopped.is_last (omega (arith, ints, started.is, stopped.is))))

some_by : (f : TzString) (o : Option Dst) → f.dst ≡ o → IsTzString f → (t : ℤ) → (state : Shown) × MeansBy f o t state
some_by f None e is t = (standard_state f, refl)
some_by f (Some dst) e is t =
    let daylight = daylight_is f dst is e in
    let year = year_exists t in
    let start = last_near dst.start f.offset t year.0 daylight.start (offset_within f.offset is.offset) year.1 in
    let stop = last_near dst.stop dst.offset t year.0 daylight.stop (daylight_within f.offset dst is.offset daylight) year.1 in
    by_lt_z (start_in f.offset dst start.found) (stop_in dst stop.found)
    (λ lt. (standard_state f, inr (standard_from f.offset dst t start.found stop.found start.is_last stop.is_last lt, refl)))
    (λ ge. (daylight_state dst, inl (daylight_from f.offset dst t start.found stop.found start.is_last stop.is_last ge, refl)))

-- a string that keeps the limits means some state
pub means_some : (f : TzString) → IsTzString f → (t : ℤ) → (state : Shown) × Means f t state
means_some f is t = some_by f f.dst refl is t

-- ---- where no edge follows the first of some instants, all is the same at them

module _ (standard : ℤ) (dst : Dst) (instants : Instants) (none : (u : ℤ) → instants.first <ℤ u → u ≤ℤ instants.last → IsEdgeInstant standard dst u → ⊥) where
  -- an edge that isn't after one of them isn't after any
  edge_stays : (t u edge : ℤ) → Includes instants t → Includes instants u → IsEdgeInstant standard dst edge → edge ≤ℤ t → edge ≤ℤ u
  edge_stays t u edge here there is h =
      by_lt_z u edge
      (λ lt. absurd (none edge (omega (arith, ints, there.from)) (omega (arith, ints, here.to)) is))
      (λ ge. ge)

  daylight_stays : (t u : ℤ) → Includes instants t → Includes instants u → IsDaylightAt standard dst t → IsDaylightAt standard dst u
  daylight_stays t u here there day = record {
    year = day.year;
    started = edge_stays t u (start_in standard dst day.year) here there (day.year, inl refl) day.started;
    last = λ other h. day.last other (edge_stays u t (stop_in dst other) there here (other, inr refl) h);
  }

  standard_stays : (t u : ℤ) → Includes instants t → Includes instants u → IsStandardAt standard dst t → IsStandardAt standard dst u
  standard_stays t u here there night = record {
    year = night.year;
    stopped = edge_stays t u (stop_in dst night.year) here there (night.year, inr refl) night.stopped;
    last = λ other h. night.last other (edge_stays u t (start_in standard dst other) there here (other, inl refl) h);
  }

stays_by : (f : TzString) (o : Option Dst) (instants : Instants) → ((u : ℤ) → instants.first <ℤ u → u ≤ℤ instants.last → IsSomeAnd o (λ dst. IsEdgeInstant f.offset dst u) → ⊥)
    → (t u : ℤ) (state : Shown) → Includes instants t → Includes instants u → MeansBy f o t state → MeansBy f o u state
stays_by f None instants none t u state here there h = h
stays_by f (Some dst) instants none t u state here there (inl h) = inl (daylight_stays f.offset dst instants none t u here there h.0, h.1)
stays_by f (Some dst) instants none t u state here there (inr h) = inr (standard_stays f.offset dst instants none t u here there h.0, h.1)

pub means_throughout : (f : TzString) (instants : Instants) → AreBetween (HasEdgeAt f) instants → (t : ℤ) (state : Shown) → Includes instants t → Means f t state → MeansThroughout f instants state
means_throughout f instants between t state here h = λ u there. stays_by f f.dst instants between.none t u state here there h
