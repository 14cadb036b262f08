use Rattle.std.proofs.Common.{take}
use Rattle.zic_zones.proofs.Records.{LearnsRecords}
use Rattle.zic_zones.proofs.tree_zones.TreeZones.learn_records.Given as goal

abbrev pub invariant-loop-record : goal.invariant-loop-record
invariant-loop-record g l = LearnsRecords g.T.ZoneTree.replied l.fn.self l.self l.fn.delimiter l.fn.piece l.last (take l.record-index l.fn.records)
