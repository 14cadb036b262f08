use Rattle.std.proofs.Common.{◌≢◌, ◌<◌, []}
use Rattle.zic_base.specs.Growth.{Gains}
use Rattle.zic_bulk.proofs.LinkLemmas.{AreZonesSoFar}
use Rattle.zic_bulk.proofs.build_linked_command.place_zones.Given as goal

abbrev pub invariant-loop-zone : goal.invariant-loop-zone
invariant-loop-zone g l = record {
  files : AreZonesSoFar l.source l.files l.folder (g.D.Tree.placed l.fn.tree) (g.D.Tree.placed l.tree) l.zone;
  links : Gains (g.D.Tree.linked l.fn.tree) (g.D.Tree.linked l.tree) [];
  named : 0 < l.zone → l.folder ≢ [];
}
