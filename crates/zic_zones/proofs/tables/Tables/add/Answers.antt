use Rattle.std.proofs.Common.{◌≡◌, ℕ, ℤ, List, length, map, sym, subst, to_z-of_z, rules}
use Rattle.zic_zones.specs.Slots.{AreRight}
use Rattle.zic_zones.specs.declared.slot.TheConstants.{SLOTS}
use Rattle.zic_zones.specs.declared.slot.Slot.{Slot}
use Rattle.zic_zones.proofs.Keeping.{keeps_same}
use Rattle.zic_zones.proofs.Once.{either_have, either_keeps, has_table, have_still, if_ok_some, slots_still}
use Rattle.zic_zones.specs.code.Tables.{AreNumbersOfSlots, slot_of}
use Rattle.zic_zones.specs.code.Numbered.{Keeps}
use Rattle.zic_zones.proofs.tables.Tables.add.Goals as goal

pub returns-in_err-run-clause-stays : goal.returns-in_err-run-clause-stays
returns-in_err-run-clause-stays c =
    let old = c.self.inside in
    let set = c.numbers_of.new.self in
    subst (λ (l : List Slot). Keeps l (map (slot_of set) old.numbers)) c.self.view_is
    (slots_still old.slots set c.numbers_of.ensures.stays old.numbers old.numbers c.self.invariant (keeps_same old.numbers))

pub returns-clause-stays : goal.returns-clause-stays
returns-clause-stays c =
    let old = c.self.inside in
    let set = c.numbers_of.new.self in
    subst (λ (l : List Slot). Keeps l (map (slot_of set) old.numbers)) c.self.view_is
    (slots_still old.slots set c.numbers_of.ensures.stays old.numbers old.numbers c.self.invariant (keeps_same old.numbers))

pub returns-in-Some-clause-stays : goal.returns-in-Some-clause-stays
returns-in-Some-clause-stays c =
    let old = c.self.inside in
    let set = c.numbers_of.new.self in
    let numbers = c.add.new.self in
    subst (λ (l : List Slot). Keeps l (map (slot_of set) numbers)) c.self.view_is
    (slots_still old.slots set c.numbers_of.ensures.stays old.numbers numbers c.self.invariant (either_keeps old.numbers numbers c.deref-in-Some.result.now c.add.ensures.stays))

pub invariant_of-self-in-Some : goal.invariant_of-self-in-Some
invariant_of-self-in-Some c =
    let old = c.self.inside in
    let set = c.numbers_of.new.self in
    let run = c.deref-in-Some.result.now in
    let are = subst (λ (l : List ℕ). AreNumbersOfSlots set l c.deref.result.now) (sym c.deref-in-Some.ensures.value) (rw c.in-Some.is at c.in_ok-run.ensures.numbers) in
    either_have set run c.deref.result.now are old.numbers c.add.new.self (have_still old.slots set c.numbers_of.ensures.stays old.numbers c.self.invariant) c.add.ensures.stays

pub returns-in-Some-clause-table : goal.returns-in-Some-clause-table
returns-in-Some-clause-table c =
    let content = c.args.zone.now in
    let base = c.args.base in
    let set = c.numbers_of.new.self in
    let run = c.deref-in-Some.result.now in
    let made = c.in_ok-slots.slots.items in
    let right = subst (λ (t : ℤ). AreRight content c.args.numbers.now t made) (to_z-of_z c.ranges.base) c.in_ok-slots.ensures.right in
    let long : length made ≡ SLOTS = search rules in
    let are = subst (λ (l : List ℕ). AreNumbersOfSlots set l c.deref.result.now) (sym c.deref-in-Some.ensures.value) (rw c.in-Some.is at c.in_ok-run.ensures.numbers) in
    let of = subst (λ (l : List Slot). AreNumbersOfSlots set run l) c.deref.ensures.value are in
    if_ok_some c.add.result c.add.ensures.start (λ start located. has_table set run made of content c.args.numbers.now base c.add.new.self start long right located)
