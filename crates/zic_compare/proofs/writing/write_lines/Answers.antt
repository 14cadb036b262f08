use Rattle.std.proofs.Common.{◌≡◌, ◌++◌, List, ℕ, sym, subst, arith, rules}
use Rattle.std.proofs.lemmas.Grind.{common_steps}
use Rattle.std.proofs.lemmas.Result.{err_from_is_err_and}
use Rattle.zic_compare.specs.Text.{with_names}
use Rattle.zic_compare.proofs.WritingLemmas.{fails_then}
use Rattle.zic_counted.specs.Written.{FailsWithin}
use Rattle.zic_compare.proofs.writing.write_lines.Goals as goal

pub returns-in_err-write_all-2-clause-err : goal.returns-in_err-write_all-2-clause-err
returns-in_err-write_all-2-clause-err g c =
    let contents = g.W.Write.contents in
    let names = c.args.names.now in
    let lines = c.args.lines.now in
    let some : with_names names lines ≡ names ++ lines = first_of (search rules, grind (arith, common_steps)) in
    let fails = fails_then contents c.args.writer.now c.write_all.new.writer c.write_all-2.new.writer names lines c.in_ok-write_all.ensures.ok c.in_err-write_all-2.ensures.err in
    let p = err_from_is_err_and c.from_residual-in_err-write_all-2.result c.from_residual-in_err-write_all-2.ensures.1 in
    rw p.1 (subst (λ (l : List ℕ). FailsWithin contents c.args.writer.now c.write_all-2.new.writer l) (sym some) fails)
