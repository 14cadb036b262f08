use Rattle.std.proofs.Common.{rules, ap, ◌∙◌}
use Rattle.std.specs.Prelude.{int_le, option_map}
use Rattle.zic_states.specs.declared.occurrence.TimedOccurrence.{TimedOccurrence}
use Rattle.zic_states.specs.ByList.{last_of}
use Rattle.zic_states.proofs.Points.{filter_from_clause, parted_not_after}
use Rattle.zic_states.proofs.current.rule_at.Goals as goal

pub returns-in_err-last : goal.returns-in_err-last
returns-in_err-last c =
    let xs = c.args.occurrences.now in
    let front = filter_from_clause (λ x. int_le x.instant c.args.t) xs c.partition_point-end.result c.partition_point-end.ensures.partitioned (parted_not_after xs c.args.t c.requires) (λ a r q k. search rules) in
    c.from_residual.ensures ∙ ap (option_map (λ (x : TimedOccurrence). x.rule)) (c.in_err-last.ensures.value ∙ ap last_of front)

pub returns : goal.returns
returns c =
    let xs = c.args.occurrences.now in
    let front = filter_from_clause (λ x. int_le x.instant c.args.t) xs c.partition_point-end.result c.partition_point-end.ensures.partitioned (parted_not_after xs c.args.t c.requires) (λ a r q k. search rules) in
    ap (option_map (λ (x : TimedOccurrence). x.rule)) (c.in_ok-last.ensures.value ∙ ap last_of front)
