use Rattle.std.proofs.Common.{[], arith}
use Rattle.std.proofs.lemmas.Result.{err_from_is_err_and}
use Rattle.zic_bulk.specs.Tree.{in_folder}
use Rattle.zic_bulk.proofs.TreeLemmas.{gains_and_none, gains_none, file_more, file_stop, some_file}
use Rattle.zic_bulk.proofs.build_command.place_files.Goals as goal

pub loop-file-init : goal.loop-file-init
loop-file-init g c = record {
  gained = gains_none (g.D.Tree.placed c.args.tree.now);
  links = gains_none (g.D.Tree.linked c.args.tree.now);
  named = λ some. absurd (omega (arith, some));
}

pub loop-file-preserved : goal.loop-file-preserved
loop-file-preserved g c = record {
  gained = file_more (in_folder c.args.folder.now) c.args.files.now c.loop-file.file (g.D.Tree.placed c.args.tree.now) (g.D.Tree.placed c.loop-file.tree) (g.D.Tree.placed c.place_file.new.tree)
      (omega arith) c.loop-file.invariant.gained c.in_ok-place_file.ensures.ok;
  links = gains_and_none (g.D.Tree.linked c.args.tree.now) (g.D.Tree.linked c.loop-file.tree) (g.D.Tree.linked c.place_file.new.tree) [] c.loop-file.invariant.links c.place_file.ensures.links;
  named = λ some. c.in_ok-place_file.ensures.named;
}

pub returns-in_err-place_file-clause-err : goal.returns-in_err-place_file-clause-err
returns-in_err-place_file-clause-err g c =
    let p = err_from_is_err_and c.from_residual.result c.from_residual.ensures.1 in
    rw (p.1, p.2) (file_stop (g.D.Tree.refused c.place_file.new.tree) c.args.folder.now c.args.files.now c.loop-file.file
    (g.D.Tree.placed c.args.tree.now) (g.D.Tree.placed c.loop-file.tree) (g.D.Tree.placed c.place_file.new.tree) c.in_err-place_file.field-0.0
    (omega arith) c.loop-file.invariant.gained c.in_err-place_file.ensures.keeps c.in_err-place_file.ensures.err)

pub returns-clause-named : goal.returns-clause-named
returns-clause-named g c = λ filled. c.loop-file.invariant.named (omega (arith, some_file c.args.files.now filled))
