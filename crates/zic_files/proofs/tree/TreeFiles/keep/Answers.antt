use Rattle.std.proofs.Common.{◌≡◌, List, ◌++◌, ℕ, sym, ap, subst}
use Rattle.std.specs.Prelude.{Contains, IfOk}
use Rattle.zic_files.specs.File.{File}
use Rattle.zic_files.specs.Tree.{Learnt, files_named}
use Rattle.zic_files.specs.code.Tree.{AreOfNames}
use Rattle.zic_files.proofs.Learning.{last_requested, of_names_more, of_others}
use Rattle.zic_files.proofs.tree.TreeFiles.keep.Goals as goal

pub invariant_of-self : goal.invariant_of-self
invariant_of-self c =
    subst (λ (requested : List (List ℕ)). AreOfNames requested c.self.inside.files) (sym c.in_err-add.ensures.err) c.self.invariant

pub invariant_of-self-2 : goal.invariant_of-self-2
invariant_of-self-2 c =
    let i = c.self.inside in
    subst (λ (requested : List (List ℕ)). AreOfNames requested i.files) (sym c.in_ok-add.ensures.ok) (of_names_more i.requested c.args.name i.files c.self.invariant)

pub keep_file-requires-clause-requested : goal.keep_file-requires-clause-requested
keep_file-requires-clause-requested c =
    subst (λ (names : List (List ℕ)). Contains names c.args.name) (sym c.in_ok-add.ensures.ok) (last_requested c.self.inside.requested c.args.name)

pub keep_file-requires-clause-new : goal.keep_file-requires-clause-new
keep_file-requires-clause-new c =
    let i = c.self.inside in
    of_others i.requested c.args.name i.files c.self.invariant (subst (λ (learnt : Learnt). Contains learnt.requested c.args.name → ⊥) (sym c.self.view_is) c.requires.new)

pub returns-clause-files : goal.returns-clause-files
returns-clause-files c =
    subst (λ (files : List File). IfOk c.keep_file.result (λ _. c.keep_file.new.self.files ≡ files ++ files_named c.args.name c.args.image))
    (ap (λ (learnt : Learnt). learnt.files) c.self.view_is) c.keep_file.ensures.files
