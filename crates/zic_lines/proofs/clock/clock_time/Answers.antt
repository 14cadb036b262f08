use Rattle.std.proofs.Common.{arith}
use Rattle.zic_lines.proofs.ClockTimes.{no_clock_time}
use Rattle.zic_lines.proofs.clock.clock_time.Goals as goal

pub returns-in-empty-clause-value : goal.returns-in-empty-clause-value
returns-in-empty-clause-value c = no_clock_time c.args.field.now (omega arith)
