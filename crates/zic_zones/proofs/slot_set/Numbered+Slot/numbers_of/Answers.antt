use Rattle.std.proofs.Common.{◌≡◌, ◌∙◌, ◌+◌, ◌++◌, ◌∷◌, [], ℕ, List, Some, take, ap, sym, subst, arith}
use Rattle.std.specs.Prelude.{slice_get}
use Rattle.std.proofs.lemmas.Option.{get_or_from_slice_get}
use Rattle.zic_base.proofs.Elements.{got}
use Rattle.zic_base.proofs.Lists.{take_next}
use Rattle.zic_zones.specs.declared.slot.Slot.{Slot}
use Rattle.zic_zones.proofs.Keeping.{keeps_then}
use Rattle.zic_zones.proofs.Once.{numbers_still, slot_numbered}
use Rattle.zic_zones.specs.code.Tables.{AreNumbersOfSlots}
use Rattle.zic_zones.proofs.slot_set.Numbered+Slot.numbers_of.Goals as goal

pub loop-slot-preserved : goal.loop-slot-preserved
loop-slot-preserved c =
    let before = c.loop-slot.self in
    let after = c.number.new.self in
    let numbers = c.loop-slot.numbers.items in
    let table = c.args.slots.now in
    let i = c.loop-slot.slot-index in
    let n = c.in-Some.number in
    let (slot, at) = got table i (omega (arith, c.loop-slot-test.true, c.loop-slot.auto.slot-index-end)) in
    let found = rw c.in-Some.is at c.in_ok-number.ensures.number in
    let numbered : slice_get after n ≡ Some slot = found ∙ ap (λ (s : Slot). Some s) (get_or_from_slice_get table i slot _ at) in
    let pushed : c.push.new.self.items ≡ numbers ++ n ∷ [] = c.in_ok-push.ensures.items in
    let are = slot_numbered after numbers (take i table) slot n (numbers_still before after c.number.ensures.stays numbers (take i table) c.loop-slot.invariant.are) numbered in
    record {
      stays = keeps_then c.args.self.now before after c.loop-slot.invariant.stays c.number.ensures.stays;
      are = subst (λ (l : List ℕ). AreNumbersOfSlots after l (take (i + 1) table)) (sym pushed)
          (subst (λ (l : List Slot). AreNumbersOfSlots after (numbers ++ n ∷ []) l) (sym (take_next table i slot at)) are);
    }
