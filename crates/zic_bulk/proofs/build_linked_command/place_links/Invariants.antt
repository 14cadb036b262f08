use Rattle.std.proofs.Common.{[]}
use Rattle.zic_base.specs.Growth.{Gains}
use Rattle.zic_bulk.proofs.LinkLemmas.{AreLinksSoFar}
use Rattle.zic_bulk.proofs.build_linked_command.place_links.Given as goal

abbrev pub invariant-loop-link : goal.invariant-loop-link
invariant-loop-link g l = record {
  links : AreLinksSoFar l.source l.folder (g.D.Tree.linked l.fn.tree) (g.D.Tree.linked l.tree) l.link;
  files : Gains (g.D.Tree.placed l.fn.tree) (g.D.Tree.placed l.tree) [];
}
