-- What is known of occurrences, in the form in which it is used here.
use Rattle.std.proofs.Common.{◌≡◌, ℤ, pos, ◌+ℤ◌, ◌-ℤ◌, ◌<ℤ◌, ◌≤ℤ◌, All, refl, arith}
use Rattle.std.proofs.lemmas.Int.{ints}
use Rattle.zic_source.specs.Sound.{IsSoundRule, IsWithinDay}
use Rattle.zic_states.specs.Occurrence.{RuleSet, Occurrence, IsOccurrence, nominal}
use Rattle.zic_states.specs.Order.{IsInstant, IsInOrder}
use Rattle.zic_states.proofs.Bounds as bounds
use Rattle.zic_states.proofs.Instants as instants
use Rattle.zic_states.proofs.Same as same

-- An occurrence has at most one instant.
pub one_instant : (set : RuleSet) (offset : ℤ) → All IsSoundRule set.rules → IsWithinDay offset → IsInOrder set offset
    → (o : Occurrence) (t u : ℤ) → IsOccurrence set o → IsInstant set offset o t → IsInstant set offset o u → t ≡ u
one_instant set offset sound within order o t u is at_t at_u = same.one_instant set offset o t u order.differ at_t at_u

-- Instants rise with nominal seconds.
pub instants_rise : (set : RuleSet) (offset : ℤ) → All IsSoundRule set.rules → IsWithinDay offset → IsInOrder set offset
    → (o p : Occurrence) (t u : ℤ) → IsOccurrence set o → IsOccurrence set p → nominal p <ℤ nominal o
    → IsInstant set offset o t → IsInstant set offset p u → u <ℤ t
instants_rise set offset sound within order o p t u is_o is_p less at_o at_p =
    instants.instants_rise set offset p o u t sound order is_p is_o at_p at_o less

-- An instant lies within 48 hours of the nominal second.
pub near : (set : RuleSet) (offset : ℤ) → All IsSoundRule set.rules → IsWithinDay offset → IsInOrder set offset
    → (o : Occurrence) (t : ℤ) → IsOccurrence set o → IsInstant set offset o t
    → ((nominal o -ℤ pos 172_800) ≤ℤ t) × (t ≤ℤ (nominal o +ℤ pos 172_800))
near set offset sound within order o t is at =
    let near = bounds.instant_near_nominal set offset o t sound within at in
    (omega (arith, ints, near.0), omega (arith, ints, near.1))
