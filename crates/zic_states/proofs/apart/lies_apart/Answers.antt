use Rattle.std.proofs.Common.{◌≡◌, length, refl, ap, arith}
use Rattle.zic_source.specs.Source.{set_rules}
use Rattle.zic_states.specs.Occurrence.{RuleSet}
use Rattle.zic_states.proofs.Members.{member_within}
use Rattle.zic_states.proofs.ApartSearch.{ApartFrom, of_members, lies_apart_from}
use Rattle.zic_states.proofs.apart.lies_apart.Goals as goal

pub loop-other-init : goal.loop-other-init
loop-other-init c = λ k small. absurd (omega arith)

pub rule-requires : goal.rule-requires
rule-requires c = member_within (record { rules = c.args.source.now.rules; name = c.args.set.now }) c.set_rules-other-items.result.now c.loop-other.other-index c.set_rules-other-items.ensures c.loop-other-test.true

pub returns : goal.returns
returns c = λ e.
    let set : RuleSet = record { rules = c.args.source.now.rules; name = c.args.set.now } in
    let numbers = set_rules set.name set.rules in
    let end : length numbers ≡ c.loop-other.other-index = omega (arith, c.loop-other-test.false, c.loop-other.auto.other-index-end, ap length c.set_rules-other-items.ensures) in
    lies_apart_from set c.args.number (of_members (ApartFrom set c.args.number) set numbers c.loop-other.other-index refl end c.loop-other.invariant)
