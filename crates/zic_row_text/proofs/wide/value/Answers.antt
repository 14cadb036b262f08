use Rattle.std.proofs.Common.{arith}
use Rattle.zic_row_text.proofs.Lanes.{pairs_low, sums, AreSums}
use Rattle.zic_row_text.proofs.wide.value.Goals as goal

pub quads-requires-clause-pairs : goal.quads-requires-clause-pairs
quads-requires-clause-pairs c = rw c.pairs.ensures (pairs_low c.args.digits c.requires.digits)

pub overflow_add-a : goal.overflow_add-a
overflow_add-a c =
    let s : AreSums c.quads.result c.args.digits = rw (c.quads.ensures, c.pairs.ensures) (sums c.args.digits c.requires.size c.requires.digits) in
    omega (arith, s.high)

pub overflow_mul-c : goal.overflow_mul-c
overflow_mul-c c =
    let s : AreSums c.quads.result c.args.digits = rw (c.quads.ensures, c.pairs.ensures) (sums c.args.digits c.requires.size c.requires.digits) in
    omega (arith, s.low)

pub overflow_add-c : goal.overflow_add-c
overflow_add-c c =
    let s : AreSums c.quads.result c.args.digits = rw (c.quads.ensures, c.pairs.ensures) (sums c.args.digits c.requires.size c.requires.digits) in
    omega (arith, s.low)

pub returns : goal.returns
returns c =
    let s : AreSums c.quads.result c.args.digits = rw (c.quads.ensures, c.pairs.ensures) (sums c.args.digits c.requires.size c.requires.digits) in
    omega (arith, s.value, c.from.ensures, c.from-2.ensures)
