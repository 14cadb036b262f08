use Rattle.std.proofs.Common.{ℤ, Some, refl, subst, rules, FitsSigned, w64, to_z-of_z}
use Rattle.zic_base.specs.State.{shown}
use Rattle.zic_posix.specs.Meaning.{Means}
use Rattle.zic_tzif.specs.code.Parts.{content_of}
use Rattle.zic_tzif.proofs.ReadAgree.{agrees_by, agrees_with_none, last_of, number_below, place_below}
use Rattle.zic_tzif.proofs.reader.does_agree.Goals as goal

pub returns-in_default : goal.returns-in_default
returns-in_default c =
    let b = c.args.parts.now.block in
    (λ _. agrees_with_none (content_of c.args.parts.now) c.args.footer.now (last_of b _ b.numbers_are_there c.in_default.ensures), λ _. refl)

pub type_at-local_type-requires-clause-inside : goal.type_at-local_type-requires-clause-inside
type_at-local_type-requires-clause-inside c =
    let b = c.args.parts.now.block in
    number_below b _ c.in-Some.change c.requires (last_of b (Some c.in-Some.change) b.numbers_are_there c.in-Some.ensures)

pub is_state_of-requires : goal.is_state_of-requires
is_state_of-requires c = place_below c.args.parts.now.block c.in-Some.change.number c.type_at-local_type.result c.requires c.type_at-local_type.ensures

pub returns : goal.returns
returns c =
    let b = c.args.parts.now.block in
    let last = last_of b (Some c.in-Some.change) b.numbers_are_there c.in-Some.ensures in
    let fits : FitsSigned w64 c.in-Some.change.instant = search rules in
    let means = subst (λ (t : ℤ). Means c.args.footer.now t (shown c.state.result)) (to_z-of_z fits) c.state.ensures in
    agrees_by (content_of c.args.parts.now) c.args.footer.now c.in-Some.change c.type_at-local_type.result (shown c.state.result) c.is_state_of.result last c.type_at-local_type.ensures means c.means_one_state.ensures c.is_state_of.ensures
