use Rattle.std.proofs.Common.{arith}
use Rattle.zic_compare.specs.Files.{AreLinesOfNew}
use Rattle.zic_compare.proofs.FilesLemmas.{lines_of_none, lines_more}
use Rattle.zic_compare.proofs.files.lines_of_new.Goals as goal

pub loop-file-init : goal.loop-file-init
loop-file-init c = rw c.new-lines.ensures.items (lines_of_none (AreLinesOfNew c.args.how.now c.args.old.now c.args.new.now) c.args.new.now c.args.first)

pub loop-file-preserved : goal.loop-file-preserved
loop-file-preserved c =
    lines_more (AreLinesOfNew c.args.how.now c.args.old.now c.args.new.now) c.args.new.now c.args.first c.loop-file.file c.loop-file.lines.items c.push_new.new.lines.items
    (omega arith) (omega arith) c.loop-file.invariant c.in_ok-push_new.ensures
