use Rattle.std.proofs.Common.{◌∙◌, arith}
use Rattle.zic_pieces.specs.code.Crew.{IsFresh}
use Rattle.zic_pieces.proofs.Crews.{crew_of, finished, read_each}
use Rattle.zic_pieces.proofs.run.run_workers.Goals as goal

pub start_workers-requires-clause-fresh : goal.start_workers-requires-clause-fresh
start_workers-requires-clause-fresh g c κs within = read_each (IsFresh c.args.claims.now) c.args.passes.items c.requires.fresh

pub merge_all-requires-clause-first : goal.merge_all-requires-clause-first
merge_all-requires-clause-first g c κs within =
    let a = c.args.passes.ok.0 in
    let b = c.in_ok-others.others.ok.0 in
    let l = c.in_ok-others.ensures.len in
    let crew = crew_of (g.T.Task.outcome c.args.task.now) c.args.claims.now c.args.passes.items c.in_ok-others.others.items c.pop.new.self.items c.in-Some.last c.in-Some.ensures.items (omega arith) (λ i d p low. c.in_ok-others.ensures.each i d p (omega arith)) in
    crew.0.0

pub merge_all-requires-clause-others : goal.merge_all-requires-clause-others
merge_all-requires-clause-others g c κs within =
    let a = c.args.passes.ok.0 in
    let b = c.in_ok-others.others.ok.0 in
    let l = c.in_ok-others.ensures.len in
    let crew = crew_of (g.T.Task.outcome c.args.task.now) c.args.claims.now c.args.passes.items c.in_ok-others.others.items c.pop.new.self.items c.in-Some.last c.in-Some.ensures.items (omega arith) (λ i d p low. c.in_ok-others.ensures.each i d p (omega arith)) in
    λ k x e. (crew.1 k x e).0

pub returns : goal.returns
returns g c =
    let a = c.args.passes.ok.0 in
    let b = c.in_ok-others.others.ok.0 in
    let l = c.in_ok-others.ensures.len in
    let crew = crew_of (g.T.Task.outcome c.args.task.now) c.args.claims.now c.args.passes.items c.in_ok-others.others.items c.pop.new.self.items c.in-Some.last c.in-Some.ensures.items (omega arith) (λ i d p low. c.in_ok-others.ensures.each i d p (omega arith)) in
    finished (g.T.Task.outcome c.args.task.now) c.args.claims.now _ _ c.merge_all.result c.merge_all.ensures.ended c.merge_all.ensures.parts
    (c.merge_all.ensures.work c.args.task.now crew.0.1 (λ k x e. (crew.1 k x e).1)) (crew.2 ∙ c.requires.parts)
