use Rattle.std.proofs.Common.{◌≡◌}
use Rattle.std.specs.Io.KnownBytes.{Keeps}
use Rattle.zic_columns.specs.Truncated.{truncated_known}
use Rattle.zic_columns.proofs.truncate.Truncated.read_lines.Given as goal

-- no byte stayed yet
abbrev pub invariant-loop : goal.invariant-loop
invariant-loop g l = record {
  most : l.self.most ≡ l.fn.self.most;
  keeps : Keeps (truncated_known l.fn.self.most l.fn.self.room (g.R.Read.remaining l.fn.self.inner)) (truncated_known l.self.most l.self.room (g.R.Read.remaining l.self.inner));
}
