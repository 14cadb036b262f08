use Rattle.std.proofs.Common.{arith, ◌<◌, ◌^◌}
use Rattle.zic_row_text.proofs.Powers.{of_more_digits}
use Rattle.zic_row_text.proofs.digits.number.Goals as goal

pub overflow_mul-n : goal.overflow_mul-n
overflow_mul-n c = let small : c.loop-byte.n < 10 ^ 26 = of_more_digits c.loop-byte.n c.loop-byte.byte-index 26 c.loop-byte.invariant.below (omega arith) in omega arith

pub overflow_add-n : goal.overflow_add-n
overflow_add-n c = let small : c.loop-byte.n < 10 ^ 26 = of_more_digits c.loop-byte.n c.loop-byte.byte-index 26 c.loop-byte.invariant.below (omega arith) in omega (arith, c.type_inv.text c.loop-byte.byte-index)

pub returns-clause-fits : goal.returns-clause-fits
returns-clause-fits c = of_more_digits c.loop-byte.n c.loop-byte.byte-index 27 c.loop-byte.invariant.below (omega arith)
