use Rattle.std.proofs.Common.{arith}
use Rattle.zic_columns.proofs.RecordCounts.{counted_more, counted_none}
use Rattle.zic_columns.proofs.blocks.count_records.Goals as goal

pub loop-passed-init : goal.loop-passed-init
loop-passed-init c = counted_none c.args.bytes.now c.args.most c.requires

pub overflow_sub-bytes : goal.overflow_sub-bytes
overflow_sub-bytes c = c.loop-passed.invariant.within

pub overflow_sub-most : goal.overflow_sub-most
overflow_sub-most c = omega (arith, c.loop-passed.invariant.few)

pub loop-passed-preserved : goal.loop-passed-preserved
loop-passed-preserved c =
    counted_more c.args.bytes.now c.args.most c.loop-passed.passed c.in-Some.more c.loop-passed.invariant
    (omega (arith, c.loop-passed-test.true, c.loop-passed.invariant.within)) c.in-Some.ensures.plain c.in-Some.ensures.count c.if-more-most.true
