use Rattle.std.proofs.Common.{take}
use Rattle.zic_compare.specs.Verifying.{AreFindings}
use Rattle.zic_compare.proofs.verifying.verify.Given as goal

-- what is told of the files so far
abbrev pub invariant-loop-file : goal.invariant-loop-file
invariant-loop-file g l = AreFindings (take l.file l.files) (g.Z.ZoneTree.replied l.fn.tree) (g.Z.ZoneTree.replied l.tree) l.lines.items
