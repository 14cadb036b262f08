use Rattle.std.proofs.Common.{arith, ◌<◌, ◌^◌}
use Rattle.zic_lines.proofs.Digits.{eight_digits}
use Rattle.zic_lines.proofs.time.number.Goals as goal

pub overflow_mul-n : goal.overflow_mul-n
overflow_mul-n c = let small : c.loop-byte.n < 10 ^ 8 = eight_digits c.loop-byte.n c.loop-byte.byte-index c.loop-byte.invariant.below (omega arith) in omega arith

pub overflow_add-n : goal.overflow_add-n
overflow_add-n c = let small : c.loop-byte.n < 10 ^ 8 = eight_digits c.loop-byte.n c.loop-byte.byte-index c.loop-byte.invariant.below (omega arith) in omega (arith, c.type_inv.text c.loop-byte.byte-index)
