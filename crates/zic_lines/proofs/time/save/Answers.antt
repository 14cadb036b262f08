use Rattle.std.proofs.Common.{arith}
use Rattle.zic_lines.proofs.ClockTimes.{no_saving}
use Rattle.zic_lines.proofs.time.save.Goals as goal

pub returns-in-empty-clause-value : goal.returns-in-empty-clause-value
returns-in-empty-clause-value c = no_saving c.args.field.now (omega arith)
