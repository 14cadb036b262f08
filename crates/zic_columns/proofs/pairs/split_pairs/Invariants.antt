use Rattle.std.proofs.Common.{◌≡◌, ◌-◌, ◌≤◌, length, take}
use Rattle.zic_columns.specs.code.Pairs.{ArePairsOf}
use Rattle.zic_columns.specs.declared.splits.TheConstants.{BATCH}
use Rattle.zic_columns.proofs.pairs.split_pairs.Given as goal

abbrev pub invariant-loop-count : goal.invariant-loop-count
invariant-loop-count l = record {
  few : l.count ≤ BATCH;
  room : length l.pairs ≡ BATCH;
  are : ArePairsOf l.delimiter.byte l.piece l.from (take l.count l.pairs) l.at;
}

abbrev pub decreases-loop-count : goal.decreases-loop-count
decreases-loop-count l = BATCH - l.count
