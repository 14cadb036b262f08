-- What a zone shows is one.
use Rattle.std.proofs.Common.{◌≡◌, ℕ, sym, subst, ◌∙◌}
use Rattle.std.specs.Prelude.{ℤ, ◌+ℤ◌}
use Rattle.std.proofs.lemmas.Option.{same_Some}
use Rattle.zic_lines.specs.declared.zone_line.ZoneLine.{ZoneLine}
use Rattle.zic_states.specs.Abbreviation.{abbreviation}
use Rattle.zic_states.specs.Laws.{IsOrderly}
use Rattle.zic_base.specs.State.{Shown}
use Rattle.zic_states.specs.Zone.{Zone, HasInForce, Shows}
use Rattle.zic_states.proofs.InForce.{one_in_force}
use Rattle.zic_states.proofs.Governing.{one_line}

pub one_state : (zone : Zone) → IsOrderly zone → (t : ℤ) (a b : Shown) → Shows zone t a → Shows zone t b → a ≡ b
one_state zone orderly t a b one other =
    let by = one.keeps in
    let by' = other.keeps in
    let (number, line) = one_line zone orderly t by.number by'.number one.line other.line by.governs by'.governs in
    let keeps = subst (λ (i : ℕ). HasInForce zone i other.line t other.in_force) (sym number) by'.keeps in
    let has_as_well = subst (λ (l : ZoneLine). HasInForce zone by.number l t other.in_force) (sym line) keeps in
    let in_force = one_in_force zone orderly.sets by.number one.line t one.in_force other.in_force by.governs.is_line by.keeps has_as_well in
    let offset : a.offset ≡ b.offset = one.offset ∙ (λ k. (line k).offset +ℤ (in_force k).saving) ∙ sym other.offset in
    let daylight : a.daylight ≡ b.daylight = one.daylight ∙ (λ k. (in_force k).daylight) ∙ sym other.daylight in
    let filled = sym one.name ∙ (λ k. abbreviation (line k).format (offset k) (in_force k).daylight (in_force k).letter) ∙ other.name in
    let name = same_Some a.name b.name filled in
    λ k. record { offset = offset k; daylight = daylight k; name = name k }
