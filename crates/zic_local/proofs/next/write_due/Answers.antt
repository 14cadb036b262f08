use Rattle.std.proofs.Common.{◌≡◌, ℕ, ◌+◌, ◌<◌, ℤ, List, length, FitsSigned, to_z, of_z, to_z-of_z, w64, subst, arith, rules}
use Rattle.std.proofs.lemmas.List.{drop-set-lt, length-set, take_more_set}
use Rattle.zic_tzif.specs.Content.{Content}
use Rattle.zic_local.specs.Due.{AreDueWritten}
use Rattle.zic_local.specs.declared.schedule.Schedule.{Schedule}
use Rattle.zic_local.proofs.Written.{written_all, written_full, written_more}
use Rattle.zic_local.proofs.next.write_due.Goals as goal

-- what is written, by the bits of instants
by_bits : (content : Content) (schedule : Schedule) (after until : ℤ) (before room : List ℤ) (count : ℕ) → FitsSigned w64 after → FitsSigned w64 until
    → AreDueWritten content schedule (to_z w64 (of_z w64 after)) (to_z w64 (of_z w64 until)) before room count
    → AreDueWritten content schedule after until before room count
by_bits content schedule after until before room count after_fits until_fits written =
    subst (λ (z : ℤ). AreDueWritten content schedule after z before room count) (to_z-of_z until_fits)
    (subst (λ (z : ℤ). AreDueWritten content schedule z (to_z w64 (of_z w64 until)) before room count) (to_z-of_z after_fits) written)

pub returns-in_default : goal.returns-in_default
returns-in_default c =
    let room = c.loop-count.room in
    let count = c.loop-count.count in
    let test = c.loop-count-test.true in
    by_bits c.args.zone.now c.args.schedule.now c.args.after c.args.until c.args.room.now room count c.ranges.after c.ranges.until
    (written_all c.args.zone.now c.args.schedule.now (to_z w64 (of_z w64 c.args.after)) (to_z w64 (of_z w64 c.args.until)) c.args.room.now
    (to_z w64 c.loop-count.from-bits) room count c.loop-count.invariant.written c.in_default.ensures (omega (arith, test)))

pub loop-count-preserved : goal.loop-count-preserved
loop-count-preserved c =
    let room = c.loop-count.room in
    let count = c.loop-count.count in
    let t = c.in-Some.t in
    let fits : FitsSigned w64 t = search rules in
    let test = c.loop-count-test.true in
    let inside : count < length room = omega (arith, test) in
    rw (to_z-of_z fits) (record {
      written = written_more c.args.zone.now c.args.schedule.now (to_z w64 (of_z w64 c.args.after)) (to_z w64 (of_z w64 c.args.until)) c.args.room.now
          (to_z w64 c.loop-count.from-bits) room count c.loop-count.invariant.written t _ c.in-Some.ensures (take_more_set room count t inside)
          (length-set room count t) (drop-set-lt (count + 1) room count t (omega arith));
      fits = fits;
    })

pub returns : goal.returns
returns c =
    let room = c.loop-count.room in
    let count = c.loop-count.count in
    let test = c.loop-count-test.false in
    let end = c.loop-count.auto.count-end in
    let full : count ≡ length room = omega (arith, test, end) in
    by_bits c.args.zone.now c.args.schedule.now c.args.after c.args.until c.args.room.now room (length room) c.ranges.after c.ranges.until
    (subst (λ (n : ℕ). AreDueWritten c.args.zone.now c.args.schedule.now (to_z w64 (of_z w64 c.args.after)) (to_z w64 (of_z w64 c.args.until)) c.args.room.now room n)
    full
    (written_full c.args.zone.now c.args.schedule.now (to_z w64 (of_z w64 c.args.after)) (to_z w64 (of_z w64 c.args.until)) c.args.room.now
    (to_z w64 c.loop-count.from-bits) room count c.loop-count.invariant.written full))
