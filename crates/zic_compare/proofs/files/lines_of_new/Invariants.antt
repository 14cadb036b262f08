use Rattle.std.proofs.Common.{slice_range}
use Rattle.zic_compare.specs.Files.{AreLinesOfNew}
use Rattle.zic_compare.specs.Lines.{AreLinesOfAll}
use Rattle.zic_compare.proofs.files.lines_of_new.Given as goal

abbrev pub invariant-loop-file : goal.invariant-loop-file
invariant-loop-file l = AreLinesOfAll (AreLinesOfNew l.how l.old l.new) (slice_range l.new l.first l.file) l.lines.items
