use Rattle.zic_compare.specs.Text.{answer_fields, from_field, until_field}
use Rattle.zic_compare.proofs.LineLemmas.{line_joined}
use Rattle.zic_tzif.specs.Answer.{answered}
use Rattle.zic_compare.proofs.text.push_span.Goals as goal

pub returns : goal.returns
returns c =
    let how = c.args.how.now in
    let span = c.args.span.now in
    line_joined c.args.lines.now.items c.args.name.now (from_field how span) (until_field how span) (answer_fields how.compared (answered span.old)) (answer_fields how.compared (answered span.new))
    _ _ _ _ _ _ _ _
    c.in_ok-extend_from_slice.ensures.items c.in_ok-push.ensures.items c.in_ok-push_from.ensures c.in_ok-push-2.ensures.items c.in_ok-push_until.ensures c.in_ok-push_answer.ensures
    c.in_ok-push_answer-2.ensures c.in_ok-push-3.ensures.items
