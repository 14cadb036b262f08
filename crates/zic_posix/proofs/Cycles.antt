-- What a string means comes again after 400 years.
use Rattle.std.proofs.Common.{◌≡◌, ℕ, zero, suc, ◌+◌, ◌*◌, ◌/◌, inl, inr, Option, Some, None, refl, subst, arith, ℤ, pos, negsuc, neg_ℤ, ◌+ℤ◌, ◌-ℤ◌}
use Rattle.std.specs.Int.{int_rem_euclid}
use Rattle.std.proofs.lemmas.Int.{ints}
use Rattle.zic_base.specs.State.{Shown}
use Rattle.zic_posix.specs.declared.footer.Dst.{Dst}
use Rattle.zic_posix.specs.Footer.{TzString}
use Rattle.zic_posix.specs.Meaning.{start_in, stop_in, IsDaylightAt, IsStandardAt, IsEdgeInstant, standard_state, daylight_state, MeansBy, Means}
use Rattle.zic_posix.proofs.Edges.{IsShift, later_shift, sooner_shift}

module _ (years seconds : ℤ) (shift : IsShift years seconds) (standard : ℤ) (dst : Dst) where
  start_moves : (y later : ℤ) → later ≡ y +ℤ years → start_in standard dst later ≡ start_in standard dst y +ℤ seconds
  start_moves y later e = shift.moves dst.start standard y later e

  stop_moves : (y later : ℤ) → later ≡ y +ℤ years → stop_in dst later ≡ stop_in dst y +ℤ seconds
  stop_moves y later e = shift.moves dst.stop dst.offset y later e

  back : (y : ℤ) → y ≡ (y -ℤ years) +ℤ years
  back y = omega (arith, ints)

  daylight_moves : (t : ℤ) → IsDaylightAt standard dst t → IsDaylightAt standard dst (t +ℤ seconds)
  daylight_moves t day =
      let here = start_moves day.year (day.year +ℤ years) refl in
      record {
        year = day.year +ℤ years;
        started = let started = day.started in omega (arith, ints);
        last = λ other h.
            let there = stop_moves (other -ℤ years) other (back other) in
            let bound = day.last (other -ℤ years) (omega (arith, ints)) in
            omega (arith, ints);
      }

  standard_moves : (t : ℤ) → IsStandardAt standard dst t → IsStandardAt standard dst (t +ℤ seconds)
  standard_moves t night =
      let here = stop_moves night.year (night.year +ℤ years) refl in
      record {
        year = night.year +ℤ years;
        stopped = let stopped = night.stopped in omega (arith, ints);
        last = λ other h.
            let there = start_moves (other -ℤ years) other (back other) in
            let bound = night.last (other -ℤ years) (omega (arith, ints)) in
            omega (arith, ints);
      }

  -- an edge has one so many seconds later, and one so many sooner
  pub edge_moves : (t moved : ℤ) → moved ≡ t +ℤ seconds → IsEdgeInstant standard dst t → IsEdgeInstant standard dst moved
  edge_moves t moved e (y, inl is) = (y +ℤ years, inl (omega (arith, ints, start_moves y (y +ℤ years) refl)))
  edge_moves t moved e (y, inr is) = (y +ℤ years, inr (omega (arith, ints, stop_moves y (y +ℤ years) refl)))

  pub edge_moves_back : (t moved : ℤ) → moved ≡ t +ℤ seconds → IsEdgeInstant standard dst moved → IsEdgeInstant standard dst t
  edge_moves_back t moved e (y, inl is) = (y -ℤ years, inl (omega (arith, ints, start_moves (y -ℤ years) y (back y))))
  edge_moves_back t moved e (y, inr is) = (y -ℤ years, inr (omega (arith, ints, stop_moves (y -ℤ years) y (back y))))

means_moves : (f : TzString) (o : Option Dst) (t : ℤ) (state : Shown) (years seconds : ℤ) → IsShift years seconds → MeansBy f o t state → MeansBy f o (t +ℤ seconds) state
means_moves f None t state years seconds shift h = h
means_moves f (Some dst) t state years seconds shift (inl h) = inl (daylight_moves years seconds shift f.offset dst t h.0, h.1)
means_moves f (Some dst) t state years seconds shift (inr h) = inr (standard_moves years seconds shift f.offset dst t h.0, h.1)

-- what a string means it means 400 years later
pub means_later : (f : TzString) (t : ℤ) (state : Shown) → Means f t state → Means f (t +ℤ pos (146_097 * 86_400)) state
means_later f t state h = means_moves f f.dst t state (pos 400) (pos (146_097 * 86_400)) later_shift h

-- and 400 years sooner
pub means_sooner : (f : TzString) (t : ℤ) (state : Shown) → Means f (t +ℤ pos (146_097 * 86_400)) state → Means f t state
means_sooner f t state h =
    let same : (t +ℤ pos (146_097 * 86_400)) +ℤ neg_ℤ (pos (146_097 * 86_400)) ≡ t = omega (arith, ints) in
    subst (λ (u : ℤ). Means f u state) same (means_moves f f.dst (t +ℤ pos (146_097 * 86_400)) state (neg_ℤ (pos 400)) (neg_ℤ (pos (146_097 * 86_400))) sooner_shift h)

-- ---- any number of cycles

no_shift : IsShift (pos 0) (pos 0)
no_shift = record { moves = λ edge offset y later e. let same : later ≡ y = omega (arith, ints) in rw same (omega (arith, ints)) }

both_shifts : (a b s r total : ℤ) → total ≡ s +ℤ r → IsShift a s → IsShift b r → IsShift (a +ℤ b) total
both_shifts a b s r total e first second = record {
  moves = λ edge offset y later is. omega (arith, ints, first.moves edge offset y (y +ℤ a) refl, second.moves edge offset (y +ℤ a) later (omega (arith, ints)));
}

-- some years are so many seconds
abbrev pub AreYears : ℤ → Type 0
AreYears seconds = (years : ℤ) × IsShift years seconds

cycles_later : (k : ℕ) (seconds : ℤ) → seconds ≡ pos (k * 12_622_780_800) → AreYears seconds
cycles_later zero seconds e = let none : seconds ≡ pos 0 = omega (arith, ints) in rw none (pos 0, no_shift)
cycles_later (suc k) seconds e =
    let rest = cycles_later k (seconds -ℤ pos 12_622_780_800) (omega (arith, ints)) in
    (rest.0 +ℤ pos 400, both_shifts rest.0 (pos 400) (seconds -ℤ pos 12_622_780_800) (pos (146_097 * 86_400)) seconds (omega (arith, ints)) rest.1 later_shift)

cycles_sooner : (k : ℕ) (seconds : ℤ) → seconds ≡ neg_ℤ (pos (k * 12_622_780_800)) → AreYears seconds
cycles_sooner zero seconds e = let none : seconds ≡ pos 0 = omega (arith, ints) in rw none (pos 0, no_shift)
cycles_sooner (suc k) seconds e =
    let rest = cycles_sooner k (seconds +ℤ pos 12_622_780_800) (omega (arith, ints)) in
    (rest.0 +ℤ neg_ℤ (pos 400), both_shifts rest.0 (neg_ℤ (pos 400)) (seconds +ℤ pos 12_622_780_800) (neg_ℤ (pos (146_097 * 86_400))) seconds (omega (arith, ints)) rest.1 sooner_shift)

-- a number is some cycles from its remainder
pub cycles_between : (t : ℤ) → AreYears (t -ℤ int_rem_euclid t (pos 12_622_780_800))
cycles_between (pos n) = cycles_later (n / 12_622_780_800) (pos n -ℤ int_rem_euclid (pos n) (pos 12_622_780_800)) (omega (arith, ints))
cycles_between (negsuc n) = cycles_sooner (n / 12_622_780_800 + 1) (negsuc n -ℤ int_rem_euclid (negsuc n) (pos 12_622_780_800)) (omega (arith, ints))

-- so what a string means at the remainder it means
pub means_at_remainder : (f : TzString) (t : ℤ) (state : Shown) → Means f (int_rem_euclid t (pos 12_622_780_800)) state → Means f t state
means_at_remainder f t state h =
    let in_cycle = int_rem_euclid t (pos 12_622_780_800) in
    let years = cycles_between t in
    let same : in_cycle +ℤ (t -ℤ in_cycle) ≡ t = omega (arith, ints) in
    subst (λ (u : ℤ). Means f u state) same (means_moves f f.dst in_cycle state years.0 (t -ℤ in_cycle) years.1 h)

-- which time is in force at the remainder decides
pub by_daylight : (f : TzString) (dst : Dst) (t : ℤ) (state : Shown) → Some dst ≡ f.dst → IsDaylightAt f.offset dst (int_rem_euclid t (pos 12_622_780_800)) → state ≡ daylight_state dst → Means f t state
by_daylight f dst t state has day shows =
    means_at_remainder f t state (subst (λ (o : Option Dst). MeansBy f o (int_rem_euclid t (pos 12_622_780_800)) state) has (inl (day, shows)))

pub by_standard : (f : TzString) (dst : Dst) (t : ℤ) (state : Shown) → Some dst ≡ f.dst → IsStandardAt f.offset dst (int_rem_euclid t (pos 12_622_780_800)) → state ≡ standard_state f → Means f t state
by_standard f dst t state has night shows =
    means_at_remainder f t state (subst (λ (o : Option Dst). MeansBy f o (int_rem_euclid t (pos 12_622_780_800)) state) has (inr (night, shows)))
