use Rattle.std.proofs.lemmas.Result.{err_from_is_err_and}
use Rattle.zic_compare.specs.Refused.{names_refused}
use Rattle.zic_compare.proofs.WritingLemmas.{ended_last, ended_new, ended_old, ended_refused, wrote_all}
use Rattle.zic_compare.proofs.writing.write_diff.Goals as goal

pub returns-in_err-left-clause-err : goal.returns-in_err-left-clause-err
returns-in_err-left-clause-err g c =
    let sides = c.args.sides.now in
    let p = err_from_is_err_and c.from_residual.result c.from_residual.ensures.1 in
    rw (p.1, p.2)
    (ended_old g.W.Write.contents c.args.how.now sides.old.now sides.new.now (names_refused sides.refused) c.args.writer.now c.write_list.new.writer _
    (rw c.names_of.ensures at c.in_err-left.ensures.err))

pub returns-in_err-end-clause-err : goal.returns-in_err-end-clause-err
returns-in_err-end-clause-err g c =
    let sides = c.args.sides.now in
    let p = err_from_is_err_and c.from_residual-in_err-end.result c.from_residual-in_err-end.ensures.1 in
    rw (p.1, p.2)
    (ended_new g.W.Write.contents c.args.how.now sides.old.now sides.new.now (names_refused sides.refused) c.args.writer.now c.write_list.new.writer c.write_list-2.new.writer c.in_ok-left.left.now _
    (rw c.names_of.ensures at c.in_ok-left.ensures.ok) c.in_err-end.ensures.err)

pub returns-in_err-last-clause-err : goal.returns-in_err-last-clause-err
returns-in_err-last-clause-err g c =
    let sides = c.args.sides.now in
    let p = err_from_is_err_and c.from_residual-in_err-last.result c.from_residual-in_err-last.ensures.1 in
    rw (p.1, p.2)
    (ended_refused g.W.Write.contents c.args.how.now sides.old.now sides.new.now (names_refused sides.refused) c.args.writer.now c.write_list.new.writer c.write_list-2.new.writer
    c.write_refused.new.writer c.in_ok-left.left.now c.in_ok-end.end.now _ (rw c.names_of.ensures at c.in_ok-left.ensures.ok) c.in_ok-end.ensures.ok c.in_err-last.ensures.err)

pub returns-in_err-flush-clause-err : goal.returns-in_err-flush-clause-err
returns-in_err-flush-clause-err g c =
    let sides = c.args.sides.now in
    let p = err_from_is_err_and c.from_residual-in_err-flush.result c.from_residual-in_err-flush.ensures.1 in
    rw (p.1, p.2)
    (ended_last g.W.Write.contents c.args.how.now sides.old.now sides.new.now (names_refused sides.refused) c.args.writer.now c.write_list.new.writer c.write_list-2.new.writer
    c.write_refused.new.writer c.flush.new.writer c.in_ok-left.left.now c.in_ok-end.end.now _ (rw c.names_of.ensures at c.in_ok-left.ensures.ok) c.in_ok-end.ensures.ok
    c.in_ok-last.ensures.ok c.in_err-flush.ensures.err)

pub returns-clause-ok : goal.returns-clause-ok
returns-clause-ok g c =
    let sides = c.args.sides.now in
    wrote_all g.W.Write.contents c.args.how.now sides.old.now sides.new.now (names_refused sides.refused) c.args.writer.now c.write_list.new.writer c.write_list-2.new.writer
    c.write_refused.new.writer c.flush.new.writer c.in_ok-left.left.now c.in_ok-end.end.now c.in_ok-last.last.now _ (rw c.names_of.ensures at c.in_ok-left.ensures.ok)
    c.in_ok-end.ensures.ok c.in_ok-last.ensures.left c.in_ok-last.ensures.ok c.in_ok-flush.ensures.ok c.is_empty.ensures
