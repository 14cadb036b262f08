use Rattle.std.proofs.Common.{◌≢◌, sym, subst}
use Rattle.std.specs.Prelude.{All, Contains}
use Rattle.zic_files.specs.Tree.{Learnt}
use Rattle.zic_files.proofs.Learning.{of_names_either}
use Rattle.zic_files.proofs.tree.TreeFiles.keep_file.Goals as goal

pub add-requires-clause-new : goal.add-requires-clause-new
add-requires-clause-new c = subst (λ (learnt : Learnt). All (λ file. file.name ≢ c.args.name) learnt.files) (sym c.self.view_is) c.requires.new

pub invariant_of-self : goal.invariant_of-self
invariant_of-self c =
    let i = c.self.inside in
    of_names_either i.requested (record { name = c.args.name; image = c.in-Some.image }) i.files c.add.new.self c.add.result c.add.ensures.ok c.add.ensures.err c.self.invariant
    (subst (λ (learnt : Learnt). Contains learnt.requested c.args.name) (sym c.self.view_is) c.requires.requested)
