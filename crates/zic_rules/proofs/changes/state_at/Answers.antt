use Rattle.std.proofs.Common.{sym, ap, subst, ◌∙◌}
use Rattle.std.proofs.lemmas.Result.{IfOk-weaker}
use Rattle.zic_states.specs.Zone.{line_at}
use Rattle.zic_rules.specs.code.Period.{the_zone, HasLine}
use Rattle.zic_rules.specs.code.Shown.{shown_by}
use Rattle.zic_rules.proofs.TimelineOffsets.{all_in_range}
use Rattle.zic_rules.proofs.TimelineStates.{line_held, rule_held, shows_held, unnamed_by}
use Rattle.zic_rules.proofs.changes.state_at.Goals as goal

pub line-line-requires : goal.line-line-requires
line-line-requires c = subst (HasLine (the_zone c.args.zone)) (sym c.from.ensures) (line_held (the_zone c.args.zone) c.args.line c.args.rule c.requires.held)

pub returns-clause-within : goal.returns-clause-within
returns-clause-within c = c.state_by.ensures.within

pub state_by-requires-clause-rule : goal.state_by-requires-clause-rule
state_by-requires-clause-rule c =
    rule_held (the_zone c.args.zone) c.args.line c.args.rule c.line-line.result.now
    (ap (line_at (the_zone c.args.zone)) (sym c.from.ensures) ∙ c.line-line.ensures.line) c.requires.held

pub state_by-requires-clause-offset : goal.state_by-requires-clause-offset
state_by-requires-clause-offset c =
    all_in_range (the_zone c.args.zone) c.from.result c.line-line.result.now c.line-line.ensures.line c.requires.in_range

pub returns-clause-ok : goal.returns-clause-ok
returns-clause-ok c =
    let zone = the_zone c.args.zone in
    let at = ap (line_at zone) (sym c.from.ensures) ∙ c.line-line.ensures.line in
    IfOk-weaker c.state_by.result _ _ (λ s by. shows_held zone c.args.line c.args.rule c.line-line.result.now (shown_by s) at by) c.state_by.ensures.ok

pub returns-clause-err : goal.returns-clause-err
returns-clause-err c =
    unnamed_by (the_zone c.args.zone) c.args.line c.args.rule c.line-line.result.now c.state_by.result
    (ap (line_at (the_zone c.args.zone)) (sym c.from.ensures) ∙ c.line-line.ensures.line) c.requires.held c.state_by.ensures.err
