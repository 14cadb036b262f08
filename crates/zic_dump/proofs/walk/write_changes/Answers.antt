use Rattle.std.proofs.Common.{◌≡◌, ℕ, ◌+◌, ◌<◌, ℤ, List, [], ◌∷◌, zero, suc, add-one, ap, length, take, drop, FitsSigned, to_z, of_z, to_z-of_z, w64, refl, sym, subst, ◌∙◌, arith, rules}
use Rattle.std.proofs.lemmas.Int.{ints}
use Rattle.std.proofs.lemmas.List.{drop-set-lt, length-set, take_more_set}
use Rattle.zic_local.specs.LocalTime.{AreJust}
use Rattle.zic_dump.specs.NearChanges.{AreChangesWritten, IsChangeWithin}
use Rattle.zic_dump.proofs.Found.{just_next, all_written, full_written}
use Rattle.zic_dump.proofs.walk.write_changes.Goals as goal

-- lists that are the same from a place on are so from the next place on
drop_one : (xs : List ℤ) (n : ℕ) → drop (suc n) xs ≡ drop 1 (drop n xs)
drop_one xs zero = refl
drop_one [] (suc n) = refl
drop_one (x ∷ xs) (suc n) = drop_one xs n

drop_more : (a b : List ℤ) (n : ℕ) → drop n a ≡ drop n b → drop (n + 1) a ≡ drop (n + 1) b
drop_more a b n same = rw add-one (drop_one a n ∙ ap (λ (xs : List ℤ). drop 1 xs) same ∙ sym (drop_one b n))

pub returns-in_default : goal.returns-in_default
returns-in_default c =
    let content = c.args.zone.now in
    let from = to_z w64 c.loop-count.from-bits in
    let first_is = to_z-of_z c.ranges.first in
    let last_is = to_z-of_z c.ranges.last in
    let inv = c.loop-count.invariant in
    let test = c.loop-count-test.true in
    let written = all_written content (to_z w64 (of_z w64 c.args.first)) from (to_z w64 (of_z w64 c.args.last)) c.args.room.now c.loop-count.room c.loop-count.count
    inv.reach inv.changes c.in_default.ensures inv.size (omega (arith, test)) inv.rest in
    let by_first = subst (λ (z : ℤ). AreChangesWritten content z (to_z w64 (of_z w64 c.args.last)) c.args.room.now c.loop-count.room c.loop-count.count) first_is written in
    subst (λ (z : ℤ). AreChangesWritten content c.args.first z c.args.room.now c.loop-count.room c.loop-count.count) last_is by_first

pub loop-count-preserved : goal.loop-count-preserved
loop-count-preserved c =
    let content = c.args.zone.now in
    let from = to_z w64 c.loop-count.from-bits in
    let first = to_z w64 (of_z w64 c.args.first) in
    let last = to_z w64 (of_z w64 c.args.last) in
    let change = c.in-Some.change in
    let count = c.loop-count.count in
    let room = c.loop-count.room in
    let fits : FitsSigned w64 change = search rules in
    let change_is = to_z-of_z fits in
    let inv = c.loop-count.invariant in
    let found = c.in-Some.ensures in
    let after = found.after in
    let within = found.within in
    let order = inv.order in
    let test = c.loop-count-test.true in
    let inside : count < length room = omega (arith, test) in
    let written = subst (AreJust (IsChangeWithin content first change)) (sym (take_more_set room count change inside)) (just_next content first from last change (take count room) order inv.changes found) in
    let rest = drop-set-lt (count + 1) room count change (omega arith) in
    let less = drop_more room c.args.room.now count inv.rest in
    rw change_is (record {
      order = omega (arith, ints, order, after);
      reach = λ u above to. omega (arith, ints, to, within);
      changes = written;
      size = length-set room count change ∙ inv.size;
      rest = rest ∙ less;
      fits = fits;
    })

pub returns : goal.returns
returns c =
    let content = c.args.zone.now in
    let from = to_z w64 c.loop-count.from-bits in
    let room = c.loop-count.room in
    let first_is = to_z-of_z c.ranges.first in
    let last_is = to_z-of_z c.ranges.last in
    let inv = c.loop-count.invariant in
    let test = c.loop-count-test.false in
    let end = c.loop-count.auto.count-end in
    let full : c.loop-count.count ≡ length room = omega (arith, test, end) in
    let written = full_written content (to_z w64 (of_z w64 c.args.first)) from (to_z w64 (of_z w64 c.args.last)) c.args.room.now room c.loop-count.count
    inv.reach inv.changes inv.size full inv.rest in
    let by_first = subst (λ (z : ℤ). AreChangesWritten content z (to_z w64 (of_z w64 c.args.last)) c.args.room.now room c.loop-count.count) first_is written in
    let by_last = subst (λ (z : ℤ). AreChangesWritten content c.args.first z c.args.room.now room c.loop-count.count) last_is by_first in
    subst (λ (n : ℕ). AreChangesWritten content c.args.first c.args.last c.args.room.now room n) full by_last
