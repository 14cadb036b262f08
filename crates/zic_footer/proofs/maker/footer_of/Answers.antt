use Rattle.std.proofs.Common.{◌≡◌, sym, subst, arith, ℤ, to_z, of_z, w32}
use Rattle.std.specs.Prelude.{IfOk}
use Rattle.std.proofs.lemmas.Int.{ints}
use Rattle.zic_base.specs.Fault.{kind_of}
use Rattle.zic_base.specs.Memory.{IfRefusal}
use Rattle.zic_base.specs.State.{shown}
use Rattle.zic_base.specs.declared.fault.Kind.TheVariants.{NoFooter}
use Rattle.zic_footer.specs.code.Turns.{AreSoundTails, IsMadeOf, NoneTakeTurns}
use Rattle.zic_footer.proofs.Outcomes.{state_within, constant_made, constant_fault, tails_are_sound, rules_made, rules_go_on, rules_fault}
use Rattle.zic_footer.proofs.maker.footer_of.Goals as goal

pub by_state-requires : goal.by_state-requires
by_state-requires c = state_within c.args.t.now c.tail.ensures.whole (shown c.in-Constant.state) c.in-Constant.ensures.tail

pub returns-in-Constant-clause-made : goal.returns-in-Constant-clause-made
returns-in-Constant-clause-made c =
    constant_made c.args.t.now c.tail.ensures.whole (shown c.in-Constant.state) c.in-Constant.ensures.tail c.by_state.result c.by_state.ensures.made

pub returns-in-Constant-clause-err : goal.returns-in-Constant-clause-err
returns-in-Constant-clause-err c =
    constant_fault c.args.t.now c.tail.ensures.whole (shown c.in-Constant.state) c.in-Constant.ensures.tail c.by_state.result c.by_state.ensures.err

pub by_rules-requires : goal.by_rules-requires
by_rules-requires c =
    let sound = tails_are_sound c.args.t.now c.tail.ensures.whole c.in-Rules.standard c.in-Rules.year c.in-Rules.rules.now c.in-Rules.ensures.tail in
    let standard : to_z w32 (of_z w32 c.in-Rules.standard) ≡ c.in-Rules.standard = omega (arith, ints, sound.within) in
    subst (λ (s : ℤ). AreSoundTails s c.in-Rules.rules.now) (sym standard) sound

pub returns-in-Rules-clause-made : goal.returns-in-Rules-clause-made
returns-in-Rules-clause-made c =
    let zone = c.args.t.now in
    let rules = c.in-Rules.rules.now in
    let sound = tails_are_sound zone c.tail.ensures.whole c.in-Rules.standard c.in-Rules.year rules c.in-Rules.ensures.tail in
    let standard : to_z w32 (of_z w32 c.in-Rules.standard) ≡ c.in-Rules.standard = omega (arith, ints, sound.within) in
    rules_made zone c.tail.ensures.whole c.in-Rules.standard c.in-Rules.year rules c.in-Rules.ensures.tail c.by_rules.result
    (subst (λ (s : ℤ). IfOk c.by_rules.result (IsMadeOf s rules)) standard c.by_rules.ensures.made)

pub returns-in-Rules-clause-goes_on : goal.returns-in-Rules-clause-goes_on
returns-in-Rules-clause-goes_on c =
    let zone = c.args.t.now in
    let rules = c.in-Rules.rules.now in
    let sound = tails_are_sound zone c.tail.ensures.whole c.in-Rules.standard c.in-Rules.year rules c.in-Rules.ensures.tail in
    let standard : to_z w32 (of_z w32 c.in-Rules.standard) ≡ c.in-Rules.standard = omega (arith, ints, sound.within) in
    rules_go_on zone c.tail.ensures.whole c.in-Rules.standard c.in-Rules.year rules c.in-Rules.ensures.tail c.by_rules.result
    (subst (λ (s : ℤ). IfOk c.by_rules.result (IsMadeOf s rules)) standard c.by_rules.ensures.made)

pub returns-in-Rules-clause-err : goal.returns-in-Rules-clause-err
returns-in-Rules-clause-err c =
    let zone = c.args.t.now in
    let rules = c.in-Rules.rules.now in
    let sound = tails_are_sound zone c.tail.ensures.whole c.in-Rules.standard c.in-Rules.year rules c.in-Rules.ensures.tail in
    let standard : to_z w32 (of_z w32 c.in-Rules.standard) ≡ c.in-Rules.standard = omega (arith, ints, sound.within) in
    rules_fault zone c.tail.ensures.whole c.in-Rules.standard c.in-Rules.year rules c.in-Rules.ensures.tail c.by_rules.result
    (subst (λ (s : ℤ). IfRefusal kind_of c.by_rules.result (λ fault. (fault ≡ NoFooter) × NoneTakeTurns s rules)) standard c.by_rules.ensures.err)
