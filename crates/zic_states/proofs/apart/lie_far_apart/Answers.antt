use Rattle.std.proofs.Common.{◌≡◌, ℕ, List, length, get_or, refl, subst, ap, arith}
use Rattle.zic_source.specs.Source.{set_rules}
use Rattle.zic_states.specs.Occurrence.{RuleSet}
use Rattle.zic_states.specs.code.Apart.{LiesApart}
use Rattle.zic_states.proofs.Members.{member_within}
use Rattle.zic_states.proofs.ApartSearch.{one_more, of_members, lie_far_apart_from}
use Rattle.zic_states.proofs.apart.lie_far_apart.Goals as goal

pub loop-number-init : goal.loop-number-init
loop-number-init c = λ k small. absurd (omega arith)

pub lies_apart-requires : goal.lies_apart-requires
lies_apart-requires c = member_within (record { rules = c.args.source.now.rules; name = c.args.set.now }) c.set_rules-number-items.result.now c.loop-number.number-index c.set_rules-number-items.ensures c.loop-number-test.true

pub loop-number-preserved : goal.loop-number-preserved
loop-number-preserved c =
    let set : RuleSet = record { rules = c.args.source.now.rules; name = c.args.set.now } in
    one_more (LiesApart set) (set_rules set.name set.rules) c.loop-number.number-index c.loop-number.invariant
    (subst (λ (ns : List ℕ). LiesApart set (get_or ns c.loop-number.number-index 0)) c.set_rules-number-items.ensures (c.if-not-lies_apart.ensures refl))

pub returns : goal.returns
returns c = λ e.
    let set : RuleSet = record { rules = c.args.source.now.rules; name = c.args.set.now } in
    let numbers = set_rules set.name set.rules in
    let end : length numbers ≡ c.loop-number.number-index = omega (arith, c.loop-number-test.false, c.loop-number.auto.number-index-end, ap length c.set_rules-number-items.ensures) in
    lie_far_apart_from set (of_members (LiesApart set) set numbers c.loop-number.number-index refl end c.loop-number.invariant)
