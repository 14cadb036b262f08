use Rattle.std.proofs.Common.{rules, ◌+◌, List, subst, sym}
use Rattle.zic_pieces.specs.Task.{AreValues}
use Rattle.zic_convert.proofs.InOrder.{pushed, value_more, values_below}
use Rattle.zic_convert.proofs.crew.in_order.Goals as goal

pub returns-then-is_err-clause-stop : goal.returns-then-is_err-clause-stop
returns-then-is_err-clause-stop g c = (search rules, values_below (g.T.Task.outcome c.args.task.now) c.loop-i.i c.loop-i.values.items c.loop-i.invariant)

pub returns-in-Err-Fault-clause-stop : goal.returns-in-Err-Fault-clause-stop
returns-in-Err-Fault-clause-stop g c =
    (search rules, values_below (g.T.Task.outcome c.args.task.now) c.loop-i.i c.loop-i.values.items c.loop-i.invariant, rw (← c.in-Err-Fault.fault-is) at (rw c.in-Err-Fault.field-0-is at c.in-Err-Fault.ensures))

pub returns-in-Err-Memory-clause-stop : goal.returns-in-Err-Memory-clause-stop
returns-in-Err-Memory-clause-stop g c = (search rules, values_below (g.T.Task.outcome c.args.task.now) c.loop-i.i c.loop-i.values.items c.loop-i.invariant)

pub loop-i-preserved : goal.loop-i-preserved
loop-i-preserved g c =
    let outcome = g.T.Task.outcome c.args.task.now in
    let i = c.loop-i.i in
    let xs = c.loop-i.values.items in
    let more = pushed c.push.result _ _ _ (sym c.if-is_err.ensures.value) c.push.ensures.items in
    subst (λ (l : List _). AreValues outcome (i + 1) l) (sym more) (value_more outcome i xs c.in-Ok.value c.loop-i.invariant c.in-Ok.ensures)
