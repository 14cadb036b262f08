use Rattle.std.proofs.Common.{arith}
use Rattle.zic_lines.proofs.Digits.{nine_digits}
use Rattle.zic_lines.proofs.time.decimals.Goals as goal

pub overflow_mul-result : goal.overflow_mul-result
overflow_mul-result c = rw c.pow.ensures (omega (arith, nine_digits c.in_ok-n.n _ c.in_ok-n.ensures.digits c.in_ok-n.ensures.length))

pub returns-clause-fits : goal.returns-clause-fits
returns-clause-fits c = rw c.pow.ensures (nine_digits c.in_ok-n.n _ c.in_ok-n.ensures.digits c.in_ok-n.ensures.length)
