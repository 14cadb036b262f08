use Rattle.std.proofs.Common.{◌≤◌, arith}
use Rattle.std.proofs.lemmas.Result.{err_from_is_err_and}
use Rattle.zic_compare.proofs.WritingLemmas.{ended_in, wrote_more, wrote_none}
use Rattle.zic_compare.proofs.writing.write_list.Goals as goal

pub loop-first-init : goal.loop-first-init
loop-first-init g c = (omega arith, wrote_none g.W.Write.contents c.args.lists.now c.args.names.now c.args.writer.now)

pub loop-first-preserved : goal.loop-first-preserved
loop-first-preserved g c =
    let first = c.loop-first.first in
    let end = c.round_end-end.result in
    let order : first ≤ end = omega (arith, c.round_end-end.ensures.some) in (
      c.round_end-end.ensures.within,
      wrote_more g.W.Write.contents c.args.lists.now c.args.names.now first end c.args.writer.now c.loop-first.writer c.write_round.new.writer c.loop-first.left.now c.in_ok-left.left.now order
          c.loop-first.invariant.1 (rw c.new-round.ensures at c.in_ok-left.ensures.ok),
    )

pub returns-in_err-left-clause-err : goal.returns-in_err-left-clause-err
returns-in_err-left-clause-err g c =
    let first = c.loop-first.first in
    let end = c.round_end-end.result in
    let order : first ≤ end = omega (arith, c.round_end-end.ensures.some) in
    let p = err_from_is_err_and c.from_residual.result c.from_residual.ensures.1 in
    rw (p.1, p.2) (ended_in g.W.Write.contents c.args.lists.now c.args.names.now first end c.min-size.result c.args.writer.now c.loop-first.writer c.write_round.new.writer c.loop-first.left.now _ order
    c.loop-first.invariant.1 (rw c.new-round.ensures at c.in_err-left.ensures.err))
