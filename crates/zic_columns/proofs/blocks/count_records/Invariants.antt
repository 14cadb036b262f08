use Rattle.std.proofs.Common.{◌-◌, length}
use Rattle.zic_columns.specs.code.Block.{AreCounted}
use Rattle.zic_columns.proofs.blocks.count_records.Given as goal

abbrev pub invariant-loop-passed : goal.invariant-loop-passed
invariant-loop-passed l = AreCounted l.bytes l.most l.passed

abbrev pub decreases-loop-passed : goal.decreases-loop-passed
decreases-loop-passed l = length l.bytes - l.passed.len
