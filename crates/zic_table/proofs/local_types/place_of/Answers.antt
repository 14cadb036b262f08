use Rattle.std.proofs.Common.{◌≡◌, ℕ, length, map, refl, sym, subst, ◌∙◌, arith}
use Rattle.zic_base.specs.State.{shown}
use Rattle.zic_table.specs.code.LocalTypes.{HasNoName}
use Rattle.zic_table.proofs.Designated.{none_more, place_found}
use Rattle.zic_table.proofs.local_types.place_of.Goals as goal

pub loop-i-init : goal.loop-i-init
loop-i-init c = refl

pub returns-then-eq : goal.returns-then-eq
returns-then-eq c =
    place_found c.args.states.now c.args.types.now c.args.name.now c.loop-i.i _ _ (omega arith) (omega arith) (sym c.eq.ensures ∙ c.if-eq.true)

pub loop-i-preserved : goal.loop-i-preserved
loop-i-preserved c =
    none_more c.args.states.now c.args.name.now c.loop-i.i _ (omega arith) c.loop-i.invariant (sym c.eq.ensures ∙ c.if-eq.false)

pub returns : goal.returns
returns c =
    let all : c.loop-i.i ≡ length c.args.types.now = omega arith in
    subst (λ (n : ℕ). HasNoName (map shown c.args.states.now) n c.args.name.now) all c.loop-i.invariant
