use Rattle.std.proofs.Common.{◌≡◌, take}
use Rattle.std.specs.List.{flat_map}
use Rattle.zic_bulk.specs.Text.{check_line}
use Rattle.zic_bulk.proofs.check_command.listing.Given as goal

abbrev pub invariant-loop-file : goal.invariant-loop-file
invariant-loop-file l = l.lines.items ≡ flat_map check_line (take l.file l.files)
