use Rattle.zic_bulk.proofs.TreeLemmas.{gains_none}
use Rattle.zic_bulk.proofs.build_command.build.Goals as goal

pub returns-in_err-files-clause-links : goal.returns-in_err-files-clause-links
returns-in_err-files-clause-links g c = gains_none (g.D.Tree.linked c.args.tree.now)
