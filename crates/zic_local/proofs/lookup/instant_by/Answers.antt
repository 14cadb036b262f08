use Rattle.std.proofs.Common.{◌≡◌, ℤ, inl, inr, ◌+ℤ◌, ◌∷◌, [], ◌++◌, to_z-of_z, w64, FitsSigned, sym, subst, rules}
use Rattle.zic_layouts.specs.declared.disambiguation.Disambiguation.{Disambiguation}
use Rattle.zic_local.specs.declared.local_time.LocalInstants.TheVariants as instants
use Rattle.zic_local.specs.LocalTime.{AreInstantsOf, IsFoldOf, AnswersLocal}
use Rattle.zic_local.specs.Choice.{Means}
use Rattle.zic_local.proofs.Choices.{means_only, first_of, last_of}
use Rattle.zic_local.proofs.lookup.instant_by.Goals as goal

pub returns-in-One : goal.returns-in-One
returns-in-One c =
    let fits : FitsSigned w64 c.in-One.t = search rules in
    rw (to_z-of_z fits) (means_only c.args.zone.now c.args.local c.args.disambiguation c.in-One.t
    (subst (λ (local : ℤ). AreInstantsOf c.args.zone.now local (c.in-One.t ∷ [])) (to_z-of_z c.ranges.local) c.in-One.ensures))

pub returns-in-Earlier : goal.returns-in-Earlier
returns-in-Earlier c =
    let fold = c.in-Fold.fold in
    let fits : FitsSigned w64 fold.first = search rules in
    let given = subst (λ (local : ℤ). IsFoldOf c.args.zone.now local fold) (to_z-of_z c.ranges.local) c.in-Fold.ensures in
    let first = first_of c.args.zone.now c.args.local fold.first (given.between ++ fold.last ∷ []) given.are in
    let Meant = λ (choice : Disambiguation). Means c.args.zone.now c.args.local choice fold.first in
    rw (to_z-of_z fits) (elim c.in-Earlier.is [
      | inl earlier ↦ subst Meant (sym earlier) (inl first)
      | inr compatible ↦ subst Meant (sym compatible) (inl first)
    ])

pub returns-in-Later : goal.returns-in-Later
returns-in-Later c =
    let fold = c.in-Fold.fold in
    let fits : FitsSigned w64 fold.last = search rules in
    let given = subst (λ (local : ℤ). IsFoldOf c.args.zone.now local fold) (to_z-of_z c.ranges.local) c.in-Fold.ensures in
    let last = last_of c.args.zone.now c.args.local (fold.first ∷ given.between) fold.last given.are in
    rw (to_z-of_z fits) (subst (λ (choice : Disambiguation). Means c.args.zone.now c.args.local choice fold.last) (sym c.in-Later.is) (inl last))

pub returns-in-Reject-disambiguation : goal.returns-in-Reject-disambiguation
returns-in-Reject-disambiguation c = search rules

pub returns-in-Earlier-disambiguation : goal.returns-in-Earlier-disambiguation
returns-in-Earlier-disambiguation c =
    let t = c.read_by.result in
    let fits : FitsSigned w64 t = search rules in
    let in_gap = subst (λ (local : ℤ). AnswersLocal c.args.zone.now local (instants.Gap c.in-Gap.gap)) (to_z-of_z c.ranges.local) c.in-Gap.ensures in
    let is : t +ℤ c.in-Gap.gap.after ≡ c.args.local = search rules in
    rw (to_z-of_z fits) (subst (λ (choice : Disambiguation). Means c.args.zone.now c.args.local choice t) (sym c.in-Earlier-disambiguation.is)
    (inr (record { gap = c.in-Gap.gap; in_gap = in_gap; is = is })))

pub returns-in-Later-disambiguation : goal.returns-in-Later-disambiguation
returns-in-Later-disambiguation c =
    let t = c.read_by-in-Later-disambiguation.result in
    let fits : FitsSigned w64 t = search rules in
    let in_gap = subst (λ (local : ℤ). AnswersLocal c.args.zone.now local (instants.Gap c.in-Gap.gap)) (to_z-of_z c.ranges.local) c.in-Gap.ensures in
    let is : t +ℤ c.in-Gap.gap.before ≡ c.args.local = search rules in
    let Meant = λ (choice : Disambiguation). Means c.args.zone.now c.args.local choice t in
    rw (to_z-of_z fits) (elim c.in-Later-disambiguation.is [
      | inl later ↦ subst Meant (sym later) (inr (record { gap = c.in-Gap.gap; in_gap = in_gap; is = is }))
      | inr compatible ↦ subst Meant (sym compatible) (inr (record { gap = c.in-Gap.gap; in_gap = in_gap; is = is }))
    ])
