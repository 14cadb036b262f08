use Rattle.std.proofs.Common.{◌≡◌, ◌∙◌, Option, ℕ, arith, ap, subst, sym, ℤ, to_z, of_z, w64}
use Rattle.zic_states.specs.InForce.{IsRuleOf}
use Rattle.zic_rules.specs.code.Period.{the_zone}
use Rattle.std.specs.Prelude.{IfSome}
use Rattle.zic_states.specs.ByList.{rule_at}
use Rattle.zic_states.specs.Zone.{line_at}
use Rattle.zic_rules.specs.code.Line.{IsEndOfWindow, IsTotalOffset}
use Rattle.zic_rules.proofs.Years.{cast}
use Rattle.zic_rules.proofs.Windows.{rule_before, window, reckoned}
use Rattle.zic_rules.proofs.window.window_end.Goals as goal

pub total_offset-earlier-requires-clause-rule : goal.total_offset-earlier-requires-clause-rule
total_offset-earlier-requires-clause-rule c =
    let zone = the_zone c.args.zone in
    let at = c.line.ensures.line in
    subst (IsRuleOf c.args.zone.source.now.rules c.line.result.now.rules) (sym c.last_rule.ensures)
    (rule_before zone c.args.number c.args.start c.args.periods.now c.line.result.now c.requires.so_far at)

pub overflow_add-result : goal.overflow_add-result
overflow_add-result c =
    let sum = reckoned c.args.start c.total_offset-earlier.result c.total_offset-later.result c.max.result c.requires.start
    c.total_offset-earlier.ensures.within c.total_offset-later.ensures.within c.max.ensures.value in
    sum.fits

pub returns-clause-window : goal.returns-clause-window
returns-clause-window c =
    let zone = the_zone c.args.zone in
    let start = c.args.start in
    let before = c.total_offset-earlier.result in
    let at_start = c.total_offset-later.result in
    let sum = reckoned start before at_start c.max.result c.requires.start c.total_offset-earlier.ensures.within c.total_offset-later.ensures.within c.max.ensures.value in
    let at = c.line.ensures.line in
    let at_later = c.line-2.ensures.line in
    let same : to_z w64 (of_z w64 start) ≡ start = cast 9002 start (omega arith) c.requires.start in
    let one = subst (λ (r : Option ℕ). IsTotalOffset c.args.zone.source.now.rules c.line.result.now r before) c.last_rule.ensures c.total_offset-earlier.ensures in
    let rule : c.rule_at.result ≡ rule_at c.args.mine.now start = c.rule_at.ensures ∙ ap (rule_at c.args.mine.now) same in
    let other = subst (λ (r : Option ℕ). IsTotalOffset c.args.zone.source.now.rules c.line-2.result.now r at_start) rule c.total_offset-later.ensures in
    subst (λ (end : ℤ). IfSome (line_at zone c.args.number) (λ line. IsEndOfWindow zone c.args.number line end)) (sym sum.is)
    (window zone start c.args.periods.now c.args.mine.now c.line.result.now c.line-2.result.now before at_start c.args.number c.requires.so_far at at_later c.requires.gives one other)

pub returns-clause-from : goal.returns-clause-from
returns-clause-from c =
    let sum = reckoned c.args.start c.total_offset-earlier.result c.total_offset-later.result c.max.result c.requires.start
    c.total_offset-earlier.ensures.within c.total_offset-later.ensures.within c.max.ensures.value in
    rw sum.is sum.from

pub returns-clause-to : goal.returns-clause-to
returns-clause-to c =
    let sum = reckoned c.args.start c.total_offset-earlier.result c.total_offset-later.result c.max.result c.requires.start
    c.total_offset-earlier.ensures.within c.total_offset-later.ensures.within c.max.ensures.value in
    rw sum.is sum.to
