use Rattle.std.proofs.Common.{◌≡◌, ◌++◌, List, ℕ, ◌∙◌, ap, rules}
use Rattle.zic_compare.specs.SummaryText.{offset_field, summary_from, summary_kind, summary_until}
use Rattle.zic_compare.proofs.LineLemmas.{summary_joined}
use Rattle.zic_tzif.specs.Answer.{answered}
use Rattle.zic_compare.proofs.summary.push_summary_line.Goals as goal

pub returns : goal.returns
returns c =
    let survey = c.args.survey.now in
    let summary = c.args.summary.now in
    let kind_is : c.kind.result.now ≡ summary_kind survey.present summary.until = search rules in
    summary_joined c.args.lines.now.items c.args.name.now (summary_from survey summary) (summary_until survey.style summary.until) (offset_field (answered summary.old))
    (offset_field (answered summary.new)) (summary_kind survey.present summary.until)
    _ _ _ _ _ _ _ _ _ _ _ _
    c.in_ok-extend_from_slice.ensures.items c.in_ok-push.ensures.items c.in_ok-push_from.ensures c.in_ok-push-2.ensures.items c.in_ok-push_until.ensures c.in_ok-push-3.ensures.items
    c.in_ok-push_offset.ensures c.in_ok-push-4.ensures.items c.in_ok-push_offset-2.ensures c.in_ok-push-5.ensures.items
    (c.in_ok-extend_from_slice-2.ensures.items ∙ ap (λ (k : List ℕ). c.push-5.new.self.items ++ k) kind_is)
    c.in_ok-push-6.ensures.items
