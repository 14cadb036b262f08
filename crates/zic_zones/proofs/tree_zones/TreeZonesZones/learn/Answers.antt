use Rattle.std.proofs.Common.{subst}
use Rattle.zic_zones.specs.Tree.{Grows, TreeOf}
use Rattle.zic_zones.proofs.Learning.{grows_by, known_then, on_ok, ready_still}
use Rattle.zic_zones.proofs.tree_zones.TreeZonesZones.learn.Goals as goal

pub extend-requires : goal.extend-requires
extend-requires g c =
    let i = c.self.inside in
    rw c.files.ensures (ready_still c.args.name.now i.learnt c.learn.new.self c.in-Ok.ensures.grown i.ready c.self.invariant)

pub returns-in-Ok-clause-grown : goal.returns-in-Ok-clause-grown
returns-in-Ok-clause-grown g c =
    let i = c.self.inside in
    let old : TreeOf g.row.T.Denot = record { tree = i.tree; learnt = i.learnt } in
    let now : TreeOf g.row.T.Denot = record { tree = c.learn.new.tree; learnt = c.learn.new.self } in
    let grows = grows_by g.T.ZoneTree.replied old now c.args.name.now c.in-Ok.ensures.ok c.in-Ok.ensures.grown in
    on_ok c.extend.result _ (subst (λ (z : TreeOf g.row.T.Denot). Grows g.T.ZoneTree.replied z now) c.self.view_is grows)

pub returns-in-Ok-clause-settled : goal.returns-in-Ok-clause-settled
returns-in-Ok-clause-settled g c =
    on_ok c.extend.result _ (known_then c.args.name.now c.self.inside.learnt c.learn.new.self c.in-Ok.ensures.grown)

pub invariant_of-self-in-Err : goal.invariant_of-self-in-Err
invariant_of-self-in-Err g c = c.new.ensures c.learn.new.self.files
