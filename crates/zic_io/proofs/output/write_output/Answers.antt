use Rattle.std.proofs.Common.{ℕ, List, [], ◌++◌, subst, ◌∙◌, append-nil, rules}
use Rattle.std.proofs.lemmas.Result.{err_from_is_err_and}
use Rattle.zic_counted.specs.Written.{FailsWithin, Writes}
use Rattle.zic_counted.proofs.Bytes.{fails_after, writes_both}
use Rattle.zic_io.proofs.output.write_output.Goals as goal

pub returns-in_err-flush-clause-fails : goal.returns-in_err-flush-clause-fails
returns-in_err-flush-clause-fails g c =
    let contents = g.W.Write.contents in
    let bytes = c.args.bytes.now in
    let old = c.args.writer.now in
    let new = c.flush.new.writer in
    let all = fails_after contents old c.write_all.new.writer new bytes [] [] c.in_ok-write_all.ensures.ok c.in_err-flush.ensures.err in
    let p = err_from_is_err_and c.from_residual-in_err-flush.result c.from_residual-in_err-flush.ensures.1 in
    rw p.1 (subst (λ (l : List ℕ). FailsWithin contents old new l) (append-nil (bytes ++ []) ∙ append-nil bytes) all)

pub returns-clause-ok : goal.returns-clause-ok
returns-clause-ok g c =
    let contents = g.W.Write.contents in
    let bytes = c.args.bytes.now in
    let old = c.args.writer.now in
    let new = c.flush.new.writer in
    subst (λ (l : List ℕ). Writes contents old new l) (append-nil bytes)
    (writes_both contents old c.write_all.new.writer new bytes [] c.in_ok-write_all.ensures.ok c.in_ok-flush.ensures.ok)

pub returns-clause-failure : goal.returns-clause-failure
returns-clause-failure c = search rules

pub returns-clause-fails : goal.returns-clause-fails
returns-clause-fails c = search rules
