use Rattle.std.proofs.Common.{◌≡◌, refl, sym, subst, ℤ, pos, ◌+ℤ◌, ◌-ℤ◌, ap, ◌∙◌, to_z, of_z, to_z-of_z, w32, w64, FitsSigned, arith, rules}
use Rattle.std.specs.Int.{int_rem_euclid, saturate_signed}
use Rattle.std.proofs.lemmas.Int.{ints}
use Rattle.zic_base.specs.State.{shown}
use Rattle.zic_posix.specs.declared.span.Instants.{Instants}
use Rattle.zic_posix.specs.Footer.{TzString}
use Rattle.zic_posix.specs.Instants.{Includes, AreBetween}
use Rattle.zic_posix.specs.Meaning.{standard_state, HasEdgeAt, Means, MeansThroughout}
use Rattle.zic_posix.specs.code.Span.{IsNear}
use Rattle.zic_posix.specs.code.State.{IsInCycle}
use Rattle.zic_posix.proofs.Cycles.{by_daylight, by_standard}
use Rattle.zic_posix.proofs.Meanings.{means_throughout}
use Rattle.zic_posix.proofs.Spans.{requested, between_edges}
use Rattle.zic_posix.proofs.footer.Footer.span_by.Goals as goal
use Rattle.zic_posix.proofs.footer.Footer.span_by.Goals.{then-phase, else-phase}

-- the instant of the cycle that the code takes
abbrev in_cycle : ℤ → ℤ
in_cycle t = int_rem_euclid t (pos 12_622_780_800)

-- near instants lie no farther apart than 64 bits hold
since_fits : (in_cycle from : ℤ) → IsInCycle in_cycle → IsNear from → FitsSigned w64 (in_cycle -ℤ from)
since_fits in_cycle from here near = omega (arith, ints, here.0, here.1)

rest_fits : (in_cycle until : ℤ) → IsInCycle in_cycle → IsNear until → FitsSigned w64 (until -ℤ in_cycle)
rest_fits in_cycle until here near = omega (arith, ints, here.0, here.1)

last_fits : (in_cycle until : ℤ) → IsInCycle in_cycle → IsNear until → FitsSigned w64 (until -ℤ in_cycle -ℤ pos 1)
last_fits in_cycle until here near = omega (arith, ints, here.0, here.1)

-- what the code computes, in whole numbers
first_fits_64 : (t in_cycle from : ℤ) → FitsSigned w64 t → FitsSigned w64 in_cycle → FitsSigned w64 from → IsInCycle in_cycle → IsNear from
    → saturate_signed w64 (to_z w64 (of_z w64 t) -ℤ to_z w64 (of_z w64 (to_z w64 (of_z w64 in_cycle) -ℤ to_z w64 (of_z w64 from)))) ≡ saturate_signed w64 (t -ℤ (in_cycle -ℤ from))
first_fits_64 t in_cycle from t_fits cycle_fits from_fits here near =
    let since : FitsSigned w64 (in_cycle -ℤ from) = since_fits in_cycle from here near in
    rw (to_z-of_z t_fits, to_z-of_z cycle_fits, to_z-of_z from_fits, to_z-of_z since) refl

last_fits_64 : (t in_cycle until : ℤ) → FitsSigned w64 t → FitsSigned w64 in_cycle → FitsSigned w64 until → IsInCycle in_cycle → IsNear until
    → saturate_signed w64 (to_z w64 (of_z w64 t) +ℤ to_z w64 (of_z w64 (to_z w64 (of_z w64 (to_z w64 (of_z w64 until) -ℤ to_z w64 (of_z w64 in_cycle))) -ℤ pos 1))) ≡ saturate_signed w64 (t +ℤ (until -ℤ in_cycle -ℤ pos 1))
last_fits_64 t in_cycle until t_fits cycle_fits until_fits here near =
    let rest : FitsSigned w64 (until -ℤ in_cycle) = rest_fits in_cycle until here near in
    let less : FitsSigned w64 (until -ℤ in_cycle -ℤ pos 1) = last_fits in_cycle until here near in
    rw (to_z-of_z t_fits, to_z-of_z until_fits, to_z-of_z cycle_fits, to_z-of_z rest, to_z-of_z less) refl

pub overflow_sub-in_cycle : goal.overflow_sub-in_cycle
overflow_sub-in_cycle c =
    omega (arith, ints, c.phase_by-phase.ensures.from_near, c.rem_euclid-in_cycle.ensures.lower_bound, c.rem_euclid-in_cycle.ensures.upper_bound)

pub overflow_sub-phase-2 : goal.overflow_sub-phase-2
overflow_sub-phase-2 c =
    omega (arith, ints, c.phase_by-phase.ensures.until_near, c.rem_euclid-in_cycle.ensures.lower_bound, c.rem_euclid-in_cycle.ensures.upper_bound)

pub returns : goal.returns
returns c =
    let g = c.self.inside in
    let f : TzString = record { std = g.std; offset = g.offset; dst = g.dst } in
    let dst = c.in-Some.dst in
    let t = c.args.t in
    let r = c.rem_euclid-in_cycle.result in
    let phase = c.phase_by-phase.result in
    let offset_fits : FitsSigned w32 g.offset = search rules in
    let r_fits : FitsSigned w64 r = search rules in
    let from_fits : FitsSigned w64 phase.from = search rules in
    let until_fits : FitsSigned w64 phase.until = search rules in
    let first_fits : FitsSigned w64 c.saturating_sub.result = search rules in
    let last_fits : FitsSigned w64 c.saturating_add.result = search rules in
    let here : IsInCycle r = (omega (arith, ints, c.rem_euclid-in_cycle.ensures.lower_bound), omega (arith, ints, c.rem_euclid-in_cycle.ensures.upper_bound)) in
    let remainder : r ≡ in_cycle t = c.rem_euclid-in_cycle.ensures.value ∙ ap in_cycle (to_z-of_z c.ranges.t) in
    let is = rw (to_z-of_z offset_fits, to_z-of_z r_fits) at c.phase_by-phase.ensures in
    let first = c.saturating_sub.ensures ∙ first_fits_64 t r phase.from c.ranges.t r_fits from_fits here is.from_near in
    let last = c.saturating_add.ensures ∙ last_fits_64 t r phase.until c.ranges.t r_fits until_fits here is.until_near in
    let instants : Instants = record { first = c.saturating_sub.result; last = c.saturating_add.result } in
    let round = requested f dst t r phase instants (sym c.in-Some.is) c.ranges.t remainder is first last in
    let edges = between_edges f dst t r phase instants (sym c.in-Some.is) c.ranges.t remainder is first last in
    let state = shown c.if-phase.state in
    let in_force = rw remainder at is.in_force in
    let means : Means f t state = elim c.if-phase.branch [
      | then-phase w ↦ by_daylight f dst t state (sym c.in-Some.is) (rw w.if-phase.true at in_force) (rw w.state-is w.daylight_state-state.ensures)
      | else-phase w ↦ by_standard f dst t state (sym c.in-Some.is) (rw w.if-phase.false at in_force)
          (rw w.state-is (w.standard_state-state.ensures ∙ ap standard_state (sym c.self.view_is)))
    ] in
    let all = (λ (said : TzString). Includes instants t × MeansThroughout said instants state × AreBetween (HasEdgeAt said) instants) in
    let said = subst all c.self.view_is (round, means_throughout f instants edges t state round means, edges) in
    rw (to_z-of_z first_fits, to_z-of_z last_fits) (record { requested = said.0; means = said.1; edges = said.2 })
