use Rattle.std.proofs.Common.{◌≡◌, Some, None, refl, sym, ap, ◌∙◌}
use Rattle.std.proofs.lemmas.Result.{err_from_is_err_and}
use Rattle.std.specs.Cow.{cow_slice_items}
use Rattle.zic_lines.specs.declared.keyword.Keyword.{Keyword}
use Rattle.zic_lines.specs.declared.keyword.Keyword.TheVariants as keywords
use Rattle.zic_lines.specs.declared.entry.Entry.TheVariants as entries
use Rattle.zic_lines.specs.Entry.{is_continuation}
use Rattle.zic_lines.specs.Grammar.{FieldsSay}
use Rattle.zic_lines.specs.ZoneLine.{IsContinuationLine}
use Rattle.zic_lines.specs.code.Texts.{texts_of}
use Rattle.zic_lines.proofs.Parsed.{wrapped}
use Rattle.zic_lines.proofs.Shapes.{some_texts}
use Rattle.zic_lines.proofs.Entries.{checks_of_awaited, checks_by_keyword, first_keyword, other_says, other_goes_on}
use Rattle.zic_lines.proofs.entry.parse_entry.Goals as goal

pub returns-in-Some-Rule-clause-ok : goal.returns-in-Some-Rule-clause-ok
returns-in-Some-Rule-clause-ok c =
    rw (checks_by_keyword c.args.awaited (texts_of c.args.fields.now) (Some keywords.Rule) c.if-awaited.false (some_texts cow_slice_items c.args.fields.now c.requires)
    (first_keyword cow_slice_items c.args.fields.now c.index-fields-0.result c.as_slice.result.now _ c.requires c.index-fields-0.is c.as_slice.ensures.value
    (sym c.parse_keyword.ensures ∙ c.in-Some-Rule.is ∙ ap (λ (k : Keyword). Some k) c.in-Some-Rule.field-0-is)))
    c.rule_line.ensures.ok

pub returns-in-Some-Rule-clause-fault : goal.returns-in-Some-Rule-clause-fault
returns-in-Some-Rule-clause-fault c =
    rw (checks_by_keyword c.args.awaited (texts_of c.args.fields.now) (Some keywords.Rule) c.if-awaited.false (some_texts cow_slice_items c.args.fields.now c.requires)
    (first_keyword cow_slice_items c.args.fields.now c.index-fields-0.result c.as_slice.result.now _ c.requires c.index-fields-0.is c.as_slice.ensures.value
    (sym c.parse_keyword.ensures ∙ c.in-Some-Rule.is ∙ ap (λ (k : Keyword). Some k) c.in-Some-Rule.field-0-is)))
    c.rule_line.ensures.fault

pub returns-in-Some-Rule-clause-says : goal.returns-in-Some-Rule-clause-says
returns-in-Some-Rule-clause-says c =
    other_says c.args.place (texts_of c.args.fields.now) c.rule_line.result c.rule_line.ensures.says

pub returns-in-Some-Rule-clause-awaited : goal.returns-in-Some-Rule-clause-awaited
returns-in-Some-Rule-clause-awaited c =
    other_goes_on c.args.place (texts_of c.args.fields.now) c.args.awaited c.rule_line.result c.if-awaited.false c.rule_line.ensures.says

pub returns-in-Some-Zone-clause-ok : goal.returns-in-Some-Zone-clause-ok
returns-in-Some-Zone-clause-ok c =
    rw (checks_by_keyword c.args.awaited (texts_of c.args.fields.now) (Some keywords.Zone) c.if-awaited.false (some_texts cow_slice_items c.args.fields.now c.requires)
    (first_keyword cow_slice_items c.args.fields.now c.index-fields-0.result c.as_slice.result.now _ c.requires c.index-fields-0.is c.as_slice.ensures.value
    (sym c.parse_keyword.ensures ∙ c.in-Some-Zone.is ∙ ap (λ (k : Keyword). Some k) c.in-Some-Zone.field-0-is)))
    c.zone_line.ensures.ok

pub returns-in-Some-Zone-clause-fault : goal.returns-in-Some-Zone-clause-fault
returns-in-Some-Zone-clause-fault c =
    rw (checks_by_keyword c.args.awaited (texts_of c.args.fields.now) (Some keywords.Zone) c.if-awaited.false (some_texts cow_slice_items c.args.fields.now c.requires)
    (first_keyword cow_slice_items c.args.fields.now c.index-fields-0.result c.as_slice.result.now _ c.requires c.index-fields-0.is c.as_slice.ensures.value
    (sym c.parse_keyword.ensures ∙ c.in-Some-Zone.is ∙ ap (λ (k : Keyword). Some k) c.in-Some-Zone.field-0-is)))
    c.zone_line.ensures.fault

pub returns-in-Some-Zone-clause-says : goal.returns-in-Some-Zone-clause-says
returns-in-Some-Zone-clause-says c =
    other_says c.args.place (texts_of c.args.fields.now) c.zone_line.result c.zone_line.ensures.says

pub returns-in-Some-Zone-clause-awaited : goal.returns-in-Some-Zone-clause-awaited
returns-in-Some-Zone-clause-awaited c =
    other_goes_on c.args.place (texts_of c.args.fields.now) c.args.awaited c.zone_line.result c.if-awaited.false c.zone_line.ensures.says

pub returns-in-Some-Link-clause-ok : goal.returns-in-Some-Link-clause-ok
returns-in-Some-Link-clause-ok c =
    rw (checks_by_keyword c.args.awaited (texts_of c.args.fields.now) (Some keywords.Link) c.if-awaited.false (some_texts cow_slice_items c.args.fields.now c.requires)
    (first_keyword cow_slice_items c.args.fields.now c.index-fields-0.result c.as_slice.result.now _ c.requires c.index-fields-0.is c.as_slice.ensures.value
    (sym c.parse_keyword.ensures ∙ c.in-Some-Link.is ∙ ap (λ (k : Keyword). Some k) c.in-Some-Link.field-0-is)))
    c.link_line.ensures.ok

pub returns-in-Some-Link-clause-fault : goal.returns-in-Some-Link-clause-fault
returns-in-Some-Link-clause-fault c =
    rw (checks_by_keyword c.args.awaited (texts_of c.args.fields.now) (Some keywords.Link) c.if-awaited.false (some_texts cow_slice_items c.args.fields.now c.requires)
    (first_keyword cow_slice_items c.args.fields.now c.index-fields-0.result c.as_slice.result.now _ c.requires c.index-fields-0.is c.as_slice.ensures.value
    (sym c.parse_keyword.ensures ∙ c.in-Some-Link.is ∙ ap (λ (k : Keyword). Some k) c.in-Some-Link.field-0-is)))
    c.link_line.ensures.fault

pub returns-in-Some-Link-clause-says : goal.returns-in-Some-Link-clause-says
returns-in-Some-Link-clause-says c =
    other_says c.args.place (texts_of c.args.fields.now) c.link_line.result c.link_line.ensures.says

pub returns-in-Some-Link-clause-awaited : goal.returns-in-Some-Link-clause-awaited
returns-in-Some-Link-clause-awaited c =
    other_goes_on c.args.place (texts_of c.args.fields.now) c.args.awaited c.link_line.result c.if-awaited.false c.link_line.ensures.says

pub returns-in-None-clause-ok : goal.returns-in-None-clause-ok
returns-in-None-clause-ok c =
    tt

pub returns-in-None-clause-says : goal.returns-in-None-clause-says
returns-in-None-clause-says c =
    tt

pub returns-in-None-clause-awaited : goal.returns-in-None-clause-awaited
returns-in-None-clause-awaited c =
    tt

pub returns-in-None-clause-fault : goal.returns-in-None-clause-fault
returns-in-None-clause-fault c =
    rw (checks_by_keyword c.args.awaited (texts_of c.args.fields.now) None c.if-awaited.false (some_texts cow_slice_items c.args.fields.now c.requires)
    (first_keyword cow_slice_items c.args.fields.now c.index-fields-0.result c.as_slice.result.now _ c.requires c.index-fields-0.is c.as_slice.ensures.value
    (sym c.parse_keyword.ensures ∙ c.in-None.is)))
    refl

pub returns-in_err-continuation_line-clause-ok : goal.returns-in_err-continuation_line-clause-ok
returns-in_err-continuation_line-clause-ok c =
    let p = err_from_is_err_and c.from_residual.result c.from_residual.ensures.1 in
    rw p.1 tt

pub returns-in_err-continuation_line-clause-says : goal.returns-in_err-continuation_line-clause-says
returns-in_err-continuation_line-clause-says c =
    let p = err_from_is_err_and c.from_residual.result c.from_residual.ensures.1 in
    rw p.1 tt

pub returns-in_err-continuation_line-clause-awaited : goal.returns-in_err-continuation_line-clause-awaited
returns-in_err-continuation_line-clause-awaited c =
    let p = err_from_is_err_and c.from_residual.result c.from_residual.ensures.1 in
    rw p.1 tt

pub returns-in_err-continuation_line-clause-fault : goal.returns-in_err-continuation_line-clause-fault
returns-in_err-continuation_line-clause-fault c =
    let p = err_from_is_err_and c.from_residual.result c.from_residual.ensures.1 in
    rw (p.1, p.2) (rw (checks_of_awaited c.args.awaited (texts_of c.args.fields.now) c.if-awaited.true (some_texts cow_slice_items c.args.fields.now c.requires))
    c.in_err-continuation_line.ensures.fault)

pub returns-then-awaited-clause-ok : goal.returns-then-awaited-clause-ok
returns-then-awaited-clause-ok c =
    rw (checks_of_awaited c.args.awaited (texts_of c.args.fields.now) c.if-awaited.true (some_texts cow_slice_items c.args.fields.now c.requires))
    c.in_ok-continuation_line.ensures.ok

pub returns-then-awaited-clause-says : goal.returns-then-awaited-clause-says
returns-then-awaited-clause-says c =
    wrapped entries.Continuation (IsContinuationLine c.args.place (texts_of c.args.fields.now)) (λ entry. FieldsSay c.args.place (texts_of c.args.fields.now) (Some entry))
    c.in_ok-continuation_line.field-0 c.map.result c.map.ensures.cases (λ line is. is) c.in_ok-continuation_line.ensures.says

pub returns-then-awaited-clause-awaited : goal.returns-then-awaited-clause-awaited
returns-then-awaited-clause-awaited c =
    wrapped entries.Continuation (IsContinuationLine c.args.place (texts_of c.args.fields.now)) (λ entry. is_continuation entry ≡ c.args.awaited)
    c.in_ok-continuation_line.field-0 c.map.result c.map.ensures.cases (λ line is. sym c.if-awaited.true) c.in_ok-continuation_line.ensures.says

pub returns-then-awaited-clause-fault : goal.returns-then-awaited-clause-fault
returns-then-awaited-clause-fault c =
    tt
