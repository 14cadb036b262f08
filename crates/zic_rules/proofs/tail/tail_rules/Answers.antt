use Rattle.std.proofs.Common.{◌≡◌, ◌∙◌, ℕ, List, true, slice_index_or, subst}
use Rattle.std.specs.Prelude.{is_some, is_none}
use Rattle.std.proofs.lemmas.List.{take_all}
use Rattle.zic_base.specs.Fault.{kind_of}
use Rattle.zic_base.proofs.MemoryLemmas.{on_want}
use Rattle.zic_rules.specs.Timeline.{IsFixed}
use Rattle.zic_rules.specs.code.Period.{the_zone}
use Rattle.zic_rules.specs.Tail.{AreTailRules}
use Rattle.zic_rules.specs.code.Tail.{continuing}
use Rattle.zic_rules.proofs.TailHeld.{offset_within, unnamed_for_ever}
use Rattle.zic_rules.proofs.TailRules.{fixed_line, number_within, of_set, never_ends, none_is, so_far_more, so_far_same, of_none}
use Rattle.zic_rules.proofs.tail.tail_rules.Goals as goal
use Rattle.zic_rules.proofs.tail.tail_rules.Goals.{then-is_none+in-Ok+in_ok-push-in-Ok, else-is_none}

pub loop-number-init : goal.loop-number-init
loop-number-init c =
    of_none c.args.zone.source.now.rules c.last_line-line.result.now c.new-rules.result.items c.new-rules.ensures.items

pub returns-clause-ok : goal.returns-clause-ok
returns-clause-ok c =
    let known = c.args.zone.source.now.rules in
    let numbers = c.rule_numbers-number-items.result.now in
    let line = c.last_line-line.result.now in
    let (number, last) = c.last_line-line.ensures.last in
    record {
      number = number;
      line = line;
      is_last = last;
      rules = subst (λ (ns : List ℕ). AreTailRules known line (continuing known ns) c.loop-number.rules.items)
          (take_all c.loop-number.number-index numbers c.loop-number-test.false ∙ c.rule_numbers-number-items.ensures) c.loop-number.invariant;
    }

pub rule-rule-requires : goal.rule-rule-requires
rule-rule-requires c =
    number_within c.args.zone.source.now.rules c.last_line-line.result.now.rules c.rule_numbers-number-items.result.now c.loop-number.number-index
    c.rule_numbers-number-items.ensures c.loop-number-test.true

pub tail_rule-requires : goal.tail_rule-requires
tail_rule-requires c =
    let zone = the_zone c.args.zone in
    let known = c.requires.periods in
    let numbers = c.rule_numbers-number-items.result.now in
    let i = c.loop-number.number-index in
    let line = c.last_line-line.result.now in
    let rule = c.rule-rule.result.now in
    let (number, last) = c.last_line-line.ensures.last in
    let (name, has_set, member) = of_set c.args.zone.source.now.rules line.rules numbers i rule c.rule_numbers-number-items.ensures c.loop-number-test.true c.rule-rule.ensures.rule in
    offset_within zone known.orderly number line last c.args.all.now.end known.is_end name has_set (slice_index_or numbers i 0) rule member known.in_range

pub refusal-requires-clause-unnamed : goal.refusal-requires-clause-unnamed
refusal-requires-clause-unnamed c =
    let zone = the_zone c.args.zone in
    let known = c.requires.periods in
    let numbers = c.rule_numbers-number-items.result.now in
    let i = c.loop-number.number-index in
    let line = c.last_line-line.result.now in
    let rule = c.rule-rule.result.now in
    let (number, last) = c.last_line-line.ensures.last in
    let (name, has_set, member) = of_set c.args.zone.source.now.rules line.rules numbers i rule c.rule_numbers-number-items.ensures c.loop-number-test.true c.rule-rule.ensures.rule in
    let none : is_none rule.last ≡ true = none_is (is_some rule.last) c.is_none.result c.is_none.ensures ∙ c.if-is_none.true in
    unnamed_for_ever zone known.orderly number line last c.args.all.now.end known.is_end name has_set (slice_index_or numbers i 0) rule member
    (never_ends rule none) c.in-Err.kind c.in-Err.ensures.err

pub returns-in_err-push-in-Ok-clause-memory : goal.returns-in_err-push-in-Ok-clause-memory
returns-in_err-push-in-Ok-clause-memory c =
    let numbers = c.rule_numbers-number-items.result.now in
    let i = c.loop-number.number-index in
    let line = c.last_line-line.result.now in
    let (number, last) = c.last_line-line.ensures.last in
    let (name, has_set, member) = of_set c.args.zone.source.now.rules line.rules numbers i c.rule-rule.result.now c.rule_numbers-number-items.ensures c.loop-number-test.true c.rule-rule.ensures.rule in
    on_want kind_of c.from_residual.result (IsFixed (the_zone c.args.zone) → ⊥) (fixed_line (the_zone c.args.zone) number line name last.is_line has_set)

pub loop-number-preserved : goal.loop-number-preserved
loop-number-preserved c =
    let rules_of = c.args.zone.source.now.rules in
    let numbers = c.rule_numbers-number-items.result.now in
    let i = c.loop-number.number-index in
    let line = c.last_line-line.result.now in
    let rule = c.rule-rule.result.now in
    let old = c.loop-number.rules.items in
    let none : is_none rule.last ≡ c.is_none.result = none_is (is_some rule.last) c.is_none.result c.is_none.ensures in
    elim c.if-is_none.branch [
      | then-is_none+in-Ok+in_ok-push-in-Ok w ↦
          rw (w.rules-is, w.in_ok-push-in-Ok.ensures.items)
          (so_far_more rules_of line numbers i c.loop-number-test.true rule c.rule-rule.ensures.rule old w.in-Ok.tail
          (none ∙ w.if-is_none.true) w.in-Ok.ensures.ok c.loop-number.invariant)
      | else-is_none w ↦
          rw w.rules-is
          (so_far_same rules_of line numbers i c.loop-number-test.true rule c.rule-rule.ensures.rule old
          (none ∙ w.if-is_none.false) c.loop-number.invariant)
    ]
