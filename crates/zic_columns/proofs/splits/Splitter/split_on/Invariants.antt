use Rattle.std.proofs.Common.{◌≡◌, ◌-◌, ◌≤◌, ◌++◌, All, length, map, take, drop}
use Rattle.zic_columns.specs.Own.{csv_records}
use Rattle.zic_columns.specs.Record.{IsSplit, record_at}
use Rattle.zic_columns.specs.code.Ends.{ShowsEnds}
use Rattle.zic_columns.specs.declared.splits.TheConstants.{BATCH}
use Rattle.zic_columns.proofs.splits.Splitter.split_on.Given as goal

abbrev pub invariant-loop-count : goal.invariant-loop-count
invariant-loop-count l = record {
  few : l.count ≤ BATCH;
  room : length l.records ≡ BATCH;
  shows : ShowsEnds l.delimiter.byte l.piece l.cursor.at l.cursor.ends;
  split : csv_records l.delimiter.byte (drop l.initial.cursor.at l.piece) ≡ map (record_at l.delimiter.byte l.piece) (take l.count l.records) ++ csv_records l.delimiter.byte (drop l.cursor.at l.piece);
  each : All (IsSplit l.delimiter.byte l.piece l.wanted) (take l.count l.records);
}

abbrev pub decreases-loop-count : goal.decreases-loop-count
decreases-loop-count l = BATCH - l.count
