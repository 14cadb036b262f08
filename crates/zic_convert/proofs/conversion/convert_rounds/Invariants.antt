use Rattle.std.proofs.Common.{◌≡◌, ◌≤◌, ◌+◌, ◌-◌}
use Rattle.zic_columns.specs.Round.{unread}
use Rattle.zic_zones.specs.declared.zones.Releases.{Releases}
use Rattle.zic_convert.proofs.Rounds.{IsFarBy}
use Rattle.zic_convert.proofs.conversion.convert_rounds.Given as goal

abbrev pub invariant-rounds : goal.invariant-rounds
invariant-rounds g l = record {
  by : l.column.by ≡ l.fn.conversion.by.layout.now.records;
  delimiter : l.column.delimiter ≡ l.fn.conversion.by.layout.now.delimiter;
  within : l.count ≤ l.fn.conversion.by.plan.now.max_rows;
  failures : l.writer.failures ≡ l.fn.writer.failures;
  began : g.L.RowLog.began l.log ≡ g.L.RowLog.began l.fn.log;
  grown : g.Z.Zones.grown l.fn.zones l.zones;
  far : (releases : Releases) → g.Z.Zones.may_be l.zones releases
      → IsFarBy l.fn.conversion.by.layout.now l.fn.conversion.by.plan.now.max_rows l.fn.conversion.max_faults (unread g.R.Read.remaining l.fn.column) (unread g.R.Read.remaining l.column) l.count l.left (g.W.Write.contents l.fn.writer.inner)
      (g.W.Write.contents l.writer.inner) (g.L.RowLog.noted l.fn.log) (g.L.RowLog.noted l.log) releases;
}

abbrev pub decreases-rounds : goal.decreases-rounds
decreases-rounds g l = l.fn.conversion.by.plan.now.max_rows + 1 - l.count
