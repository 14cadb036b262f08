use Rattle.zic_compare.proofs.GroupLemmas.{none_at_first, none_of_all, one_more_none}
use Rattle.std.proofs.Common.{arith}
use Rattle.zic_compare.proofs.groups.is_first.Goals as goal

pub loop-other-init : goal.loop-other-init
loop-other-init c = none_at_first c.args.own.now c.args.others.now c.args.file

pub loop-other-preserved : goal.loop-other-preserved
loop-other-preserved c =
    one_more_none c.args.own.now c.args.others.now c.args.file c.loop-other.other c.stand_together.result c.loop-other.invariant c.stand_together.ensures c.if-stand_together.false

pub returns : goal.returns
returns c = none_of_all c.args.own.now c.args.others.now c.args.file c.loop-other.other (omega (arith, c.loop-other-test.false)) c.loop-other.invariant
