-- At each instant a zone shows a state, and a zone without a fault just one.
use Rattle.std.proofs.Common.{◌≡◌, ◌<◌, ℕ, List, length, Option, Some, None, refl}
use Rattle.std.specs.Prelude.{ℤ, ◌+ℤ◌}
use Rattle.zic_base.specs.declared.fault.Kind.TheVariants as kind
use Rattle.zic_source.specs.Sound.{IsSoundSource}
use Rattle.zic_base.proofs.Elements.{got}
use Rattle.zic_states.specs.Abbreviation.{abbreviation}
use Rattle.zic_states.specs.Fault.{HasNoLetter, IsSound}
use Rattle.zic_states.specs.Laws.{HasSetsInOrder}
use Rattle.zic_base.specs.State.{Shown}
use Rattle.zic_states.specs.Zone.{Zone, ZoneHasInForce, Shows}
use Rattle.zic_states.proofs.Governing.{some_line}
use Rattle.zic_states.proofs.Lines.{orderly}
use Rattle.zic_states.proofs.SomeInForce.{some_in_force}
use Rattle.zic_states.proofs.States.{one_state}

filled_unless_none : (o : Option (List ℕ)) → (o ≡ None → ⊥) → (name : List ℕ) × (o ≡ Some name)
filled_unless_none None never = absurd (never refl)
filled_unless_none (Some name) never = (name, refl)

pub some_state : (zone : Zone) → HasSetsInOrder zone → zone.number < length zone.source.zones → (HasNoLetter zone → ⊥)
    → (t : ℤ) → (state : Shown) × Shows zone t state
some_state zone sets is_zone letters t =
    let (lines, is) = got zone.source.zones zone.number is_zone in
    let (i, line, governs) = some_line zone sets lines is t in
    let (in_force, keeps) = some_in_force zone sets i line t governs.is_line in
    let by : ZoneHasInForce zone t line in_force = record { number = i; governs = governs; keeps = keeps } in
    let (name, filled) = filled_unless_none (abbreviation line.format (line.offset +ℤ in_force.saving) in_force.daylight in_force.letter)
    (λ none. letters (record { t = t; line = line; in_force = in_force; keeps = by; wants = none })) in (
      record { offset = line.offset +ℤ in_force.saving; daylight = in_force.daylight; name = name },
      record { line = line; in_force = in_force; keeps = by; offset = refl; daylight = refl; name = filled },
    )

pub one_state_at : (zone : Zone) → IsSoundSource zone.source → zone.number < length zone.source.zones → IsSound zone
    → (t : ℤ) → (state : Shown) × Shows zone t state × ((other : Shown) → Shows zone t other → other ≡ state)
one_state_at zone source is_zone sound t =
    let in_order = orderly zone source sound in
    let (state, shows) = some_state zone in_order.sets is_zone (sound kind.NoLetter) t in
    (state, shows, λ other shows_too. one_state zone in_order t other state shows_too shows)
