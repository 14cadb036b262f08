use Rattle.std.proofs.Common.{sym, ◌∙◌, subst}
use Rattle.zic_pieces.specs.Task.{IsStop}
use Rattle.zic_pieces.specs.code.Order.{AllBelow, EachHas, AreInOrder}
use Rattle.zic_pieces.proofs.Decides.{settled, none_below, none_each, none_values, some_stop}
use Rattle.zic_pieces.proofs.run.answer.Goals as goal

pub in_order-requires-clause-below : goal.in_order-requires-clause-below
in_order-requires-clause-below g c =
    let s = settled (g.T.Task.outcome c.args.task.now) (g.T.Task.count c.args.task.now) c.args.claims c.args.all.pass c.args.all.values.items c.args.all.halt c.settle-least.result.least c.requires.work.0.0 c.requires.pieces c.requires.work.2 c.settle-least.ensures.least (c.settle-least.ensures.each (c.settle-least.ensures.ended ∙ c.requires.work.0.1)) in
    subst (λ n. AllBelow n c.args.all.values.items) (sym c.pieces-pieces.ensures) (none_below _ _ _ _ _ _ s c.in-None.is)

pub in_order-requires-clause-each : goal.in_order-requires-clause-each
in_order-requires-clause-each g c =
    let s = settled (g.T.Task.outcome c.args.task.now) (g.T.Task.count c.args.task.now) c.args.claims c.args.all.pass c.args.all.values.items c.args.all.halt c.settle-least.result.least c.requires.work.0.0 c.requires.pieces c.requires.work.2 c.settle-least.ensures.least (c.settle-least.ensures.each (c.settle-least.ensures.ended ∙ c.requires.work.0.1)) in
    subst (λ n. EachHas n c.args.all.values.items) (sym c.pieces-pieces.ensures) (none_each _ _ _ _ _ _ s c.in-None.is)

pub returns-in-Ok-clause-ok : goal.returns-in-Ok-clause-ok
returns-in-Ok-clause-ok g c =
    let s = settled (g.T.Task.outcome c.args.task.now) (g.T.Task.count c.args.task.now) c.args.claims c.args.all.pass c.args.all.values.items c.args.all.halt c.settle-least.result.least c.requires.work.0.0 c.requires.pieces c.requires.work.2 c.settle-least.ensures.least (c.settle-least.ensures.each (c.settle-least.ensures.ended ∙ c.requires.work.0.1)) in
    none_values _ _ _ _ _ _ s c.in-None.is c.in-Ok.values.items (subst (λ n. AreInOrder n c.args.all.values.items c.in-Ok.values.items) c.pieces-pieces.ensures c.in-Ok.ensures)

pub returns-in-Some-clause-stop : goal.returns-in-Some-clause-stop
returns-in-Some-clause-stop g c =
    let s = settled (g.T.Task.outcome c.args.task.now) (g.T.Task.count c.args.task.now) c.args.claims c.args.all.pass c.args.all.values.items c.args.all.halt c.settle-least.result.least c.requires.work.0.0 c.requires.pieces c.requires.work.2 c.settle-least.ensures.least (c.settle-least.ensures.each (c.settle-least.ensures.ended ∙ c.requires.work.0.1)) in
    subst (IsStop (g.T.Task.outcome c.args.task.now) (g.T.Task.count c.args.task.now)) (sym c.stop_at.ensures) (some_stop _ _ _ _ _ _ s _ _ c.in-Some.is)
