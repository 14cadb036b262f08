-- How long a column's buffer grows.
use Rattle.std.proofs.Common.{◌≡◌, ◌↔◌, ⊎_elim, ℕ, ◌-◌, ◌<◌, ◌≤◌, Bool, true, false, List, length, max, drop, slice_range, Option, None, Some, arith}
use Rattle.std.specs.Prelude.{IsTrue}
use Rattle.std.proofs.lemmas.Bool.{cases_lt}
use Rattle.std.proofs.lemmas.Bool.Decides.{nat_tests}
use Rattle.std.proofs.lemmas.List.{length-drop, length-take}
use Rattle.zic_columns.specs.Round.{ColumnOf, GrowsFor, buffer_for, may_have}
use Rattle.zic_columns.specs.code.Mark.{ShowsMark}
use Rattle.zic_columns.proofs.MarkFacts.{mark_shown}

-- a part of a list is no longer than the list
pub part_shorter : (xs : List ℕ) (start end : ℕ) → length (slice_range xs start end) ≤ length xs
part_shorter xs start end = omega (arith, length-take (end - start) (drop start xs), length-drop start xs)

-- longer records want no shorter buffer
pub wider : (wanted few most : ℕ) → few ≤ most → buffer_for wanted few ≤ buffer_for wanted most
wider wanted few most le = omega arith

-- a buffer that stays has grown for any records
pub grows_none : {R : Type 0} (wanted : ℕ) (longest : Option ℕ) (old new : ColumnOf R) → new.buffer ≡ old.buffer → GrowsFor wanted longest old new
grows_none wanted None old new same = tt
grows_none wanted (Some most) old new same = omega (arith, same)

-- and so has one that grew for them before
pub grows_same : {R : Type 0} (wanted : ℕ) (longest : Option ℕ) (old mid new : ColumnOf R) → GrowsFor wanted longest old mid → new.buffer ≡ mid.buffer → GrowsFor wanted longest old new
grows_same wanted None old mid new grew same = tt
grows_same wanted (Some most) old mid new grew same = omega (arith, grew, same)

-- a read may be made while a record may have the buffered bytes
pub grows_on : {R : Type 0} (wanted : ℕ) (longest : Option ℕ) (old mid new : ColumnOf R) → GrowsFor wanted longest old mid → may_have longest (length mid.held) ≡ true
    → new.buffer ≤ max mid.buffer (buffer_for wanted (length mid.held)) → GrowsFor wanted longest old new
grows_on wanted None old mid new grew few read = tt
grows_on wanted (Some most) old mid new grew few read =
    let le : length mid.held ≤ most = grind (arith, nat_tests, few) in
    omega (arith, grew, read, wider wanted (length mid.held) most le)

-- Bytes that don't show whether there is a mark are few.
pub unshown_few : (held : List ℕ) (shows : Bool) → (IsTrue shows ↔ ShowsMark held) → shows ≡ false → length held < 3
unshown_few held shows is none = ⊎_elim
    (λ (few : length held < 3). few)
    (λ (three : 3 ≤ length held). let shown : shows ≡ true = is.1 (λ rest. mark_shown held rest three) in absurd (cc (shown, none)))
    (cases_lt (length held) 3)
