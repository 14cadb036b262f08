use Rattle.std.proofs.Common.{◌<◌, length}
use Rattle.zic_files.specs.code.NameIndex.{AreNumbersUpTo}
use Rattle.zic_files.proofs.name_index.NameIndex.with_more_buckets.Given as goal

abbrev pub invariant-loop-number : goal.invariant-loop-number
invariant-loop-number l = record {
  numbers : AreNumbersUpTo l.entries l.number l.index;
  some : 0 < length l.index.last.items;
}
