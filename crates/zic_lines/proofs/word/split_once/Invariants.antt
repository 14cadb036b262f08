use Rattle.std.proofs.Common.{◌≡◌, eqb, false, All, take}
use Rattle.zic_lines.proofs.word.split_once.Given as goal

abbrev pub invariant-loop-index : goal.invariant-loop-index
invariant-loop-index l = All (λ byte. eqb byte l.separator ≡ false) (take l.index l.bytes)
