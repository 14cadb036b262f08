use Rattle.std.proofs.Common.{◌≢◌, ◌<◌, [], map, take}
use Rattle.zic_base.specs.Growth.{Gains}
use Rattle.zic_bulk.specs.Tree.{in_folder}
use Rattle.zic_bulk.proofs.build_command.place_files.Given as goal

abbrev pub invariant-loop-file : goal.invariant-loop-file
invariant-loop-file g l = record {
  gained : Gains (g.D.Tree.placed l.fn.tree) (g.D.Tree.placed l.tree) (map (in_folder l.folder) (take l.file l.files));
  links : Gains (g.D.Tree.linked l.fn.tree) (g.D.Tree.linked l.tree) [];
  named : 0 < l.file → l.folder ≢ [];
}
