use Rattle.std.proofs.Common.{◌≡◌, ℕ, ◌+◌, ◌-◌, ◌<◌, ◌≤◌, Bool, ◌&&◌, ◌||◌, false, List, length, length-set, get_or, refl, sym, ap, ◌∙◌, arith}
use Rattle.std.specs.Prelude.{nat_le, ◌==◌}
use Rattle.std.proofs.lemmas.List.{get_or-replicate}
use Rattle.zic_tzif.specs.Designation.{is_designated}
use Rattle.zic_tzif.proofs.ReadDesignations.{nothing_after, begins_here, known_more}
use Rattle.zic_tzif.proofs.designation.designated_places.Goals as goal
use Rattle.zic_tzif.proofs.designation.designated_places.Goals.{then-place-lt-PLACES, else-place-lt-PLACES}

pub loop-passed-init : goal.loop-passed-init
loop-passed-init c =
    let names = c.args.names.now in
    record {
      size = refl;
      begins = sym (nothing_after names (length names - 0) (omega arith));
      known = λ place at within. get_or-replicate 256 place false false within ∙ sym (nothing_after names place (omega arith));
    }

pub loop-passed-preserved : goal.loop-passed-preserved
loop-passed-preserved c =
    let names = c.args.names.now in
    let place = length names - 1 - c.loop-passed.passed in
    let octet = get_or names place 0 in
    let here : place ≡ length names - (c.loop-passed.passed + 1) = omega arith in
    let next : length names - c.loop-passed.passed ≡ place + 1 = omega arith in
    let following : c.loop-passed.begins ≡ is_designated names (place + 1) = c.loop-passed.invariant.begins ∙ ap (is_designated names) next in
    let is : c.begins_at-begins.result ≡ is_designated names place =
    c.begins_at-begins.ensures ∙ ap (λ b. (octet == 0) || (b && (nat_le 32 octet && nat_le octet 126))) following ∙ sym (begins_here names place (omega arith)) in
    let old : (k : ℕ) → place + 1 ≤ k → k < 256 → get_or c.loop-passed.places k false ≡ is_designated names k = λ k at within. c.loop-passed.invariant.known k (omega arith) within in
    elim c.if-place-lt-PLACES.branch [
      | then-place-lt-PLACES w ↦ record {
        size = ap length w.places-is ∙ length-set c.loop-passed.places place c.begins_at-begins.result ∙ c.loop-passed.invariant.size;
        begins = is ∙ ap (is_designated names) here;
        known = λ k at within. ap (λ (ps : List Bool). get_or ps k false) w.places-is
            ∙ known_more names c.loop-passed.places place c.begins_at-begins.result c.loop-passed.invariant.size w.if-place-lt-PLACES.true is old k (omega arith) within;
      }
      | else-place-lt-PLACES w ↦ record {
        size = ap length w.places-is ∙ c.loop-passed.invariant.size;
        begins = is ∙ ap (is_designated names) here;
        known = λ k at within. ap (λ (ps : List Bool). get_or ps k false) w.places-is ∙ old k (omega (arith, w.if-place-lt-PLACES.false)) within;
      }
    ]
