use Rattle.zic_files.specs.code.NameIndex.{AreNumbersUpTo}
use Rattle.zic_files.proofs.name_index.NameIndex.of.Given as goal

abbrev pub invariant-loop-number : goal.invariant-loop-number
invariant-loop-number l = AreNumbersUpTo l.entries l.number l.index
