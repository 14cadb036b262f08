use Rattle.std.proofs.Common.{◌≡◌, ◌++◌, ◌∷◌, [], ℤ, List, subst, sym, to_z, of_z, w64, to_z-of_z, rules}
use Rattle.zic_zones.specs.Slots.{AreRight, IsRight}
use Rattle.zic_zones.specs.declared.slot.Slot.{Slot}
use Rattle.zic_zones.proofs.Slots.{right_more}
use Rattle.zic_zones.proofs.table.slots_of.Goals as goal

pub loop-place-preserved : goal.loop-place-preserved
loop-place-preserved c =
    let content = c.args.zone.now in
    let numbers = c.args.numbers.now in
    let slots = c.loop-place.slots.items in
    let slot = c.slot_from.result in
    let pushed : c.push.new.self.items ≡ slots ++ slot ∷ [] = c.in_ok-push.ensures.items in
    let f = to_z-of_z c.ranges.base in
    let are = subst (λ (t : ℤ). AreRight content numbers t slots) f c.loop-place.invariant.right in
    record {
      long = search rules;
      right = subst (λ (l : List Slot). AreRight content numbers (to_z w64 (of_z w64 c.args.base)) l) (sym pushed) (subst (λ (t : ℤ). AreRight content numbers t (slots ++ slot ∷ [])) (sym f) (right_more content numbers c.args.base slots slot are (subst (λ (t : ℤ). IsRight content numbers t slot) (search rules) c.slot_from.ensures.right)));
      known = c.slot_from.ensures.known;
    }
