use Rattle.std.proofs.Common.{◌≡◌, inl, List, ℕ, [], ◌∷◌, ◌++◌, ◌∙◌, refl, sym, subst}
use Rattle.std.specs.Prelude.{Contains, IfErr, IfOk}
use Rattle.std.proofs.lemmas.Bool.{false≢true}
use Rattle.zic_base.specs.Growth.{Gains}
use Rattle.zic_files.specs.Tree.{Adds, AreRequestedOnce, AreOfName, IsLearntFrom, Learnt, Reply}
use Rattle.zic_files.proofs.Added.{if_err}
use Rattle.zic_files.proofs.Learning.{gains_none, grown_if_ok, nothing_more, requested_nothing_more, settled_nothing_more, settled_before, settled_if_ok, none_of_name}
use Rattle.zic_files.proofs.tree.TreeFiles.learn.Goals as goal

pub returns-then-has-clause-ok : goal.returns-then-has-clause-ok
returns-then-has-clause-ok g c = λ replies from.
    let name = c.args.name.now in
    let has = subst (λ (learnt : Learnt). Contains learnt.requested name) c.self.view_is (c.has.ensures.0 c.if-has.true) in (
      [],
      gains_none (g.T.ZoneTree.replied c.args.tree.now),
      nothing_more replies c.args.self.now from,
      settled_nothing_more replies name (settled_before replies c.args.self.now name from has),
      none_of_name name,
    )

pub returns-then-has-clause-grown : goal.returns-then-has-clause-grown
returns-then-has-clause-grown g c =
    let has = subst (λ (learnt : Learnt). Contains learnt.requested c.args.name.now) c.self.view_is (c.has.ensures.0 c.if-has.true) in
    inl (λ _. has, refl)

pub returns-in-None-clause-grown : goal.returns-in-None-clause-grown
returns-in-None-clause-grown g c = inl (λ proper. absurd (false≢true (c.in-None.ensures.just.1 proper)), refl)

pub returns-in_ok-name-in-Some-clause-ok : goal.returns-in_ok-name-in-Some-clause-ok
returns-in_ok-name-in-Some-clause-ok g c = λ replies from.
    let same = rw c.in_ok-name-in-Some.was at c.in-Some.ensures.name in
    let facts = subst
    (λ (name : List ℕ). IfOk c.request.result (λ _. (reply : Reply) × Gains (g.T.ZoneTree.replied c.args.tree.now) (g.T.ZoneTree.replied c.request.new.tree) (reply ∷ [])
    × IsLearntFrom (replies ++ reply ∷ []) c.request.new.self × (reply.name ≡ name))) same (c.request.ensures.ok replies from) in
    settled_if_ok replies c.request.new.self c.args.name.now (g.T.ZoneTree.replied c.args.tree.now) (g.T.ZoneTree.replied c.request.new.tree) c.request.result facts

pub returns-in_ok-name-in-Some-clause-err : goal.returns-in_ok-name-in-Some-clause-err
returns-in_ok-name-in-Some-clause-err g c = λ replies from.
    let same = rw c.in_ok-name-in-Some.was at c.in-Some.ensures.name in
    subst
    (λ (name : List ℕ). IfErr c.request.result (λ _. (more : List Reply) × Gains (g.T.ZoneTree.replied c.args.tree.now) (g.T.ZoneTree.replied c.request.new.tree) more
    × AreRequestedOnce (replies ++ more) × AreOfName name more)) same (c.request.ensures.err replies from)

pub returns-in-None-clause-ok : goal.returns-in-None-clause-ok
returns-in-None-clause-ok g c = λ replies from. (
  [],
  gains_none (g.T.ZoneTree.replied c.args.tree.now),
  nothing_more replies c.args.self.now from,
  λ proper. absurd (false≢true (c.in-None.ensures.just.1 proper)),
  none_of_name c.args.name.now,
)

pub returns-in_err-name-in-Some-clause-err : goal.returns-in_err-name-in-Some-clause-err
returns-in_err-name-in-Some-clause-err g c = λ replies from.
    if_err c.from_residual.result _ ([], gains_none (g.T.ZoneTree.replied c.args.tree.now), requested_nothing_more replies c.args.self.now from, none_of_name c.args.name.now)

pub returns-in_ok-name-in-Some-clause-memory : goal.returns-in_ok-name-in-Some-clause-memory
returns-in_ok-name-in-Some-clause-memory g c =
    if_err c.request.result _ (
      c.in-Some.ensures.just.0 refl,
      λ has. false≢true (sym c.if-has.false ∙ c.has.ensures.1 (subst (λ (learnt : Learnt). Contains learnt.requested c.args.name.now) (sym c.self.view_is) has)),
    )

pub returns-in_ok-name-in-Some-clause-grown : goal.returns-in_ok-name-in-Some-clause-grown
returns-in_ok-name-in-Some-clause-grown g c =
    let same = rw c.in_ok-name-in-Some.was at c.in-Some.ensures.name in
    let added = subst (λ (name : List ℕ). IfOk c.request.result (λ _. Adds name c.args.self.now c.request.new.self)) same c.request.ensures.added in
    grown_if_ok c.args.self.now c.request.new.self c.args.name.now c.request.result added
