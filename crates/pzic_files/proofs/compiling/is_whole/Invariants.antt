use Rattle.std.proofs.Common.{◌≡◌, ◌+◌, drop}
use Rattle.std.specs.List.{sum}
use Rattle.pzic_files.proofs.compiling.is_whole.Given as goal

abbrev pub invariant-loop-len : goal.invariant-loop-len
invariant-loop-len l = l.count + sum (drop l.len-index l.lengths) ≡ l.left + sum l.lengths
