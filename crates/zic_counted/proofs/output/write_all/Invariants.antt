use Rattle.std.proofs.Common.{◌≡◌, ◌++◌, ℕ, List, length}
use Rattle.zic_counted.specs.Written.{Writes}
use Rattle.zic_counted.proofs.output.write_all.Given as goal

-- what was written, and then the rest, is all
abbrev pub invariant-loop-rest : goal.invariant-loop-rest
invariant-loop-rest g l = (done : List ℕ) × (done ++ l.rest ≡ l.fn.bytes) × Writes g.W.Write.contents l.fn.writer l.writer done

abbrev pub decreases-loop-rest : goal.decreases-loop-rest
decreases-loop-rest g l = length l.rest
