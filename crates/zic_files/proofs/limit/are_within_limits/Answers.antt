use Rattle.std.proofs.Common.{arith}
use Rattle.zic_base.specs.State.{shown}
use Rattle.zic_files.proofs.Fits.{one_more_within}
use Rattle.zic_files.proofs.limit.are_within_limits.Goals as goal

pub loop-number-init : goal.loop-number-init
loop-number-init c = λ number state lt is. absurd (omega (arith, lt))

pub state-requires : goal.state-requires
state-requires c = (c.state_count-number-end.ensures c.loop-number.number).0 c.loop-number-test.true

pub loop-number-preserved : goal.loop-number-preserved
loop-number-preserved c =
    one_more_within c.args.zone.now c.loop-number.number (shown c.state.result) c.loop-number.invariant c.state.ensures (c.is_within_limits.ensures.0 c.if-not-is_within_limits.false)

pub returns : goal.returns
returns c = λ number state is. c.loop-number.invariant number state (let all = (c.state_count-number-end.ensures number).1 (state, is) in let end = c.loop-number-test.false in omega (arith, all, end)) is
