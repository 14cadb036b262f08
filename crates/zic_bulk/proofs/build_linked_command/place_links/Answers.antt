use Rattle.std.proofs.Common.{[], arith}
use Rattle.std.proofs.lemmas.Result.{err_from_is_err_and}
use Rattle.zic_bulk.proofs.LinkLemmas.{link_more, link_stop}
use Rattle.zic_bulk.proofs.TreeLemmas.{gains_and_none}
use Rattle.zic_bulk.proofs.build_linked_command.place_links.Goals as goal

pub returns-in_err-place_link-clause-err : goal.returns-in_err-place_link-clause-err
returns-in_err-place_link-clause-err g c =
    let p = err_from_is_err_and c.from_residual.result c.from_residual.ensures.1 in
    rw (p.1, p.2) (link_stop (g.D.Tree.refused c.place_link.new.tree) c.args.source.now c.args.folder.now c.loop-link.link
    (g.D.Tree.linked c.args.tree.now) (g.D.Tree.linked c.loop-link.tree) (g.D.Tree.linked c.place_link.new.tree) c.in_err-place_link.field-0.0
    (omega arith) c.loop-link.invariant.links c.in_err-place_link.ensures.keeps c.in_err-place_link.ensures.err)

pub loop-link-preserved : goal.loop-link-preserved
loop-link-preserved g c = record {
  links = link_more c.args.source.now c.args.folder.now c.loop-link.link (g.D.Tree.linked c.args.tree.now) (g.D.Tree.linked c.loop-link.tree) (g.D.Tree.linked c.place_link.new.tree)
      (omega arith) c.loop-link.invariant.links c.in_ok-place_link.ensures.ok;
  files = gains_and_none (g.D.Tree.placed c.args.tree.now) (g.D.Tree.placed c.loop-link.tree) (g.D.Tree.placed c.place_link.new.tree) [] c.loop-link.invariant.files c.place_link.ensures.files;
}
