use Rattle.std.proofs.Common.{[], arith}
use Rattle.std.proofs.lemmas.Result.{err_from_is_err_and}
use Rattle.zic_bulk.proofs.LinkLemmas.{all_zones, found_within, no_zones, zone_more, zone_stop}
use Rattle.zic_bulk.proofs.TreeLemmas.{gains_and_none, gains_none}
use Rattle.zic_bulk.proofs.build_linked_command.place_zones.Goals as goal

pub loop-zone-init : goal.loop-zone-init
loop-zone-init g c = record {
  files = no_zones c.args.source.now c.zones-zone-end.ensures.sound c.args.files.now c.requires c.args.folder.now (g.D.Tree.placed c.args.tree.now);
  links = gains_none (g.D.Tree.linked c.args.tree.now);
  named = λ some. absurd (omega (arith, some));
}

pub place_file-requires : goal.place_file-requires
place_file-requires g c = found_within c.args.files.now c.args.source.now.zones c.loop-zone.zone c.zone_file.result (omega arith) c.zone_file.ensures

pub returns-in_err-place_file-clause-err : goal.returns-in_err-place_file-clause-err
returns-in_err-place_file-clause-err g c =
    let p = err_from_is_err_and c.from_residual.result c.from_residual.ensures.1 in
    rw (p.1, p.2) (zone_stop c.args.source.now c.zones-zone-end.ensures.sound c.args.files.now c.requires c.args.folder.now (g.D.Tree.refused c.place_file.new.tree) c.loop-zone.zone c.zone_file.result
    (g.D.Tree.placed c.args.tree.now) (g.D.Tree.placed c.loop-zone.tree) (g.D.Tree.placed c.place_file.new.tree) c.in_err-place_file.field-0.0
    (omega arith) c.loop-zone.invariant.files c.zone_file.ensures c.in_err-place_file.ensures.keeps c.in_err-place_file.ensures.err)

pub loop-zone-preserved : goal.loop-zone-preserved
loop-zone-preserved g c = record {
  files = zone_more c.args.source.now c.zones-zone-end.ensures.sound c.args.files.now c.requires c.args.folder.now c.loop-zone.zone c.zone_file.result
      (g.D.Tree.placed c.args.tree.now) (g.D.Tree.placed c.loop-zone.tree) (g.D.Tree.placed c.place_file.new.tree)
      (omega arith) c.loop-zone.invariant.files c.zone_file.ensures c.in_ok-place_file.ensures.ok;
  links = gains_and_none (g.D.Tree.linked c.args.tree.now) (g.D.Tree.linked c.loop-zone.tree) (g.D.Tree.linked c.place_file.new.tree) [] c.loop-zone.invariant.links c.place_file.ensures.links;
  named = λ some. c.in_ok-place_file.ensures.named;
}

pub returns-clause-ok : goal.returns-clause-ok
returns-clause-ok g c =
    all_zones c.args.source.now c.args.files.now c.args.folder.now (g.D.Tree.placed c.args.tree.now) (g.D.Tree.placed c.loop-zone.tree) c.loop-zone.zone (omega arith) c.loop-zone.invariant.files
