use Rattle.std.proofs.Common.{arith}
use Rattle.zic_bulk.specs.Text.{check_line}
use Rattle.zic_bulk.proofs.ListingLemmas.{line_more}
use Rattle.zic_bulk.proofs.check_command.listing.Goals as goal

pub loop-file-preserved : goal.loop-file-preserved
loop-file-preserved c =
    line_more check_line c.args.files.now c.loop-file.file c.loop-file.lines.items c.push_line.new.lines.items (omega arith) c.loop-file.invariant c.in_ok-push_line.ensures
