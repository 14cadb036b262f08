use Rattle.std.proofs.Common.{arith}
use Rattle.std.proofs.lemmas.Int.{ints}
use Rattle.zic_states.proofs.Ends.{one_end}
use Rattle.probe.proofs.rows.timelines.state_at.Goals as goal

pub state-requires : goal.state-requires
state-requires c end is =
    let same = one_end c.args.found.now c.end.ensures.whole.orderly.sets end _ is c.end.ensures.end in
    let before = c.if-t-end.true in
    let fits = c.ranges.t.sfits in
    omega (arith, ints, same, before, fits)
