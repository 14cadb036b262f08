use Rattle.std.proofs.Common.{rules}
use Rattle.zic_explain.proofs.NearestNames.{nearer, no_nearer, nearest_of_all}
use Rattle.zic_explain.proofs.nearest.nearest_name.Goals as goal
use Rattle.zic_explain.proofs.nearest.nearest_name.Goals.{then-edits-least, else-edits-least}

pub loop-other-preserved : goal.loop-other-preserved
loop-other-preserved c =
    let names = c.args.names.now in
    let name = c.args.name.now in
    let other = c.loop-other.other-index in
    let before = c.loop-other.invariant in
    let value = c.in_ok-edits.ensures.value in
    elim c.if-edits-least.branch [
      | then-edits-least w ↦ rw (w.nearest-is, w.least-is) (search rules, nearer names name other _ _ _ _ c.loop-other-test.true value w.if-edits-least.true before.1)
      | else-edits-least w ↦ rw (w.nearest-is, w.least-is) (before.0, no_nearer names name other _ _ _ _ c.loop-other-test.true value w.if-edits-least.false before.1)
    ]

pub returns : goal.returns
returns c =
    nearest_of_all c.args.names.now c.args.name.now c.loop-other.other-index c.loop-other.nearest.now c.loop-other.least
    c.loop-other-test.false c.loop-other.invariant.1
