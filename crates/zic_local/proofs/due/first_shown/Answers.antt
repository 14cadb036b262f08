use Rattle.std.proofs.Common.{ℤ, [], ◌∷◌, ◌++◌, FitsSigned, to_z-of_z, w64, subst, rules}
use Rattle.zic_local.specs.LocalTime.{AnswersLocal, AreInstantsOf, IsFoldOf}
use Rattle.zic_local.proofs.Choices.{first_of}
use Rattle.zic_local.proofs.Meant.{none_first}
use Rattle.zic_local.proofs.due.first_shown.Goals as goal

pub returns-in-One : goal.returns-in-One
returns-in-One c =
    let t = c.in-One.t in
    let fits : FitsSigned w64 t = search rules in
    let are = subst (λ (local : ℤ). AreInstantsOf c.args.zone.now local (t ∷ [])) (to_z-of_z c.ranges.local) c.in-One.ensures in
    rw (to_z-of_z fits) (first_of c.args.zone.now c.args.local t [] are)

pub returns-in-Fold : goal.returns-in-Fold
returns-in-Fold c =
    let fold = c.in-Fold.fold in
    let fits : FitsSigned w64 fold.first = search rules in
    let given = subst (λ (local : ℤ). IsFoldOf c.args.zone.now local fold) (to_z-of_z c.ranges.local) c.in-Fold.ensures in
    rw (to_z-of_z fits) (first_of c.args.zone.now c.args.local fold.first (given.between ++ fold.last ∷ []) given.are)

pub returns-in-Gap : goal.returns-in-Gap
returns-in-Gap c =
    let tells = subst (λ (local : ℤ). AnswersLocal c.args.zone.now local c.instants.result) (to_z-of_z c.ranges.local) c.instants.ensures in
    none_first c.args.zone.now c.args.local c.instants.result tells c.in-Gap.is
