use Rattle.std.proofs.Common.{◌+◌, ◌*◌, ◌<◌, length, arith}
use Rattle.pzic_files.specs.FilesOf.{given_in}
use Rattle.pzic_files.proofs.FilesTaken.{all-taken, goes-on, left-after, one-longer}
use Rattle.pzic_files.proofs.taking.take_all.Goals as goal

pub loop-i-preserved : goal.loop-i-preserved
loop-i-preserved c =
    let l = c.loop-i in
    let lengths = c.args.lengths.now in
    let rest = l.rest.now in
    let inside : 2 * l.i + 1 < length lengths = omega (arith, c.requires.each) in
    let one = rw (c.split_at.ensures.front, c.split_at-in-loop-i.ensures.front, c.split_at.ensures.back) at c.in_ok-status.ensures in
    record {
      left = rw c.split_at-in-loop-i.ensures.back (rw c.split_at.ensures.back (left-after lengths rest l.i inside l.invariant.left));
      count = rw c.in_ok-push.ensures.items (one-longer l.statuses.items c.in_ok-status.status l.i l.invariant.count);
      taken = rw c.in_ok-push.ensures.items (rw c.split_at-in-loop-i.ensures.back (rw c.split_at.ensures.back
          (goes-on (given_in lengths c.args.texts.now) lengths rest l.statuses.items l.files c.take_file.new.files l.i c.in_ok-status.status inside one l.invariant.taken)));
    }

pub returns-clause-taken : goal.returns-clause-taken
returns-clause-taken c =
    let l = c.loop-i in
    let lengths = c.args.lengths.now in
    all-taken (given_in lengths c.args.texts.now) lengths l.rest.now l.statuses.items l.files l.i (omega (arith, c.requires.each)) l.invariant.taken
