use Rattle.std.proofs.Common.{◌≡◌, ℕ, max, List, length, get_or, sym, ap, subst, ◌∙◌, arith}
use Rattle.std.proofs.lemmas.Option.{same_Some}
use Rattle.zic_lines.specs.declared.rule_line.Rule.{Rule}
use Rattle.zic_source.specs.Source.{set_rules}
use Rattle.zic_states.specs.Occurrence.{RuleSet, IsMember}
use Rattle.zic_states.proofs.LastNamed.{IsGreatest, one_named, all_named}
use Rattle.zic_states.proofs.Members.{member_at, member_within}
use Rattle.zic_states.proofs.occurrence.last_named_year.Goals as goal

pub rule-rule-requires : goal.rule-rule-requires
rule-rule-requires c = member_within (record { rules = c.args.source.now.rules; name = c.args.set.now }) c.set_rules-number-items.result.now c.loop-number.number-index c.set_rules-number-items.ensures c.loop-number-test.true

pub loop-number-preserved : goal.loop-number-preserved
loop-number-preserved c =
    let set : RuleSet = record { rules = c.args.source.now.rules; name = c.args.set.now } in
    let numbers = c.set_rules-number-items.result.now in
    let is = member_at set numbers c.loop-number.number-index c.set_rules-number-items.ensures c.loop-number-test.true in
    let same : is.rule ≡ c.rule-rule.result.now = same_Some is.rule c.rule-rule.result.now (sym is.member.numbered ∙ c.rule-rule.ensures.rule) in
    one_named set (set_rules set.name set.rules) c.loop-number.number-index (get_or numbers c.loop-number.number-index 0) c.loop-number.greatest c.max-greatest.result c.rule-rule.result.now
    c.loop-number.invariant (subst (λ (r : Rule). IsMember set (get_or numbers c.loop-number.number-index 0) r) same is.member)
    (ap (λ (ns : List ℕ). get_or ns c.loop-number.number-index 0) c.set_rules-number-items.ensures)
    (c.max-greatest.ensures ∙ ap (λ (y : ℕ). max y c.loop-number.greatest) c.unwrap_or.ensures)

pub returns : goal.returns
returns c =
    let set : RuleSet = record { rules = c.args.source.now.rules; name = c.args.set.now } in
    let numbers = set_rules set.name set.rules in
    let end : c.loop-number.number-index ≡ length numbers = omega (arith, c.loop-number-test.false, c.loop-number.auto.number-index-end, ap length c.set_rules-number-items.ensures) in
    all_named set c.loop-number.greatest c.requires (subst (λ (n : ℕ). IsGreatest set numbers n c.loop-number.greatest) end c.loop-number.invariant)
