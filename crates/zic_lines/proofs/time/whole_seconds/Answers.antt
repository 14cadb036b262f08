use Rattle.std.proofs.Common.{arith}
use Rattle.zic_lines.proofs.Seconds.{rounded_time}
use Rattle.zic_lines.proofs.time.whole_seconds.Goals as goal

pub returns-then-seconds-from-clause-value : goal.returns-then-seconds-from-clause-value
returns-then-seconds-from-clause-value c =
    rounded_time c.args.limit c.args.text.now _ _ c.in_ok-time.ensures.value c.nearest_second-seconds.ensures (omega arith)
