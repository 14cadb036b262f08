use Rattle.std.proofs.lemmas.Result.{err_from_is_err_and}
use Rattle.zic_bulk.proofs.TreeLemmas.{gains_none}
use Rattle.zic_bulk.proofs.build_command.place_file.Goals as goal

pub returns-in_err-path-clause-keeps : goal.returns-in_err-path-clause-keeps
returns-in_err-path-clause-keeps g c =
    let p = err_from_is_err_and c.from_residual.result c.from_residual.ensures.1 in
    rw p.1 (gains_none (g.D.Tree.placed c.args.tree.now))

pub returns-then-is_empty-clause-keeps : goal.returns-then-is_empty-clause-keeps
returns-then-is_empty-clause-keeps g c = gains_none (g.D.Tree.placed c.args.tree.now)
