use Rattle.std.proofs.Common.{◌∙◌, arith, refl}
use Rattle.std.proofs.lemmas.Result.{err_from_is_err_and}
use Rattle.std.specs.Cow.{cow_slice_items}
use Rattle.zic_lines.specs.declared.entry.Entry.TheVariants as entries
use Rattle.zic_lines.specs.RuleLine.{IsRuleLine}
use Rattle.zic_lines.specs.code.Entries.{IsOtherLine}
use Rattle.zic_lines.specs.code.Texts.{texts_of}
use Rattle.zic_lines.proofs.Parsed.{refused, wrapped}
use Rattle.zic_lines.proofs.Shapes.{ten_texts}
use Rattle.zic_lines.proofs.RuleLines.{no_name, times_fail, effect_decides, effect_passes, rule_made}
use Rattle.zic_lines.proofs.rule_line.rule_line.Goals as goal

pub returns-in_default-parse-clause-fault : goal.returns-in_default-parse-clause-fault
returns-in_default-parse-clause-fault c =
    no_name (ten_texts cow_slice_items c.args.fields.now (omega arith) (omega arith)
    c.name-item.is c.from-item.is c.to-item.is c.reserved-item.is c.month-item.is c.day-item.is c.time-item.is c.saved-item.is c.letter-item.is
    c.as_slice.ensures.value refl refl refl refl refl refl refl refl) (refused _ c.in_default-parse.ensures.just)

pub returns-in_err-times-clause-fault : goal.returns-in_err-times-clause-fault
returns-in_err-times-clause-fault c =
    let p = err_from_is_err_and c.from_residual.result c.from_residual.ensures.1 in
    rw (p.1, p.2) (times_fail (ten_texts cow_slice_items c.args.fields.now (omega arith) (omega arith)
    c.name-item.is c.from-item.is c.to-item.is c.reserved-item.is c.month-item.is c.day-item.is c.time-item.is c.saved-item.is c.letter-item.is
    c.as_slice.ensures.value c.as_slice-2.ensures.value c.as_slice-3.ensures.value c.as_slice-4.ensures.value c.as_slice-5.ensures.value c.as_slice-6.ensures.value c.as_slice-7.ensures.value refl refl)
    (c.in-Some.ensures.just.0 refl) c.in_err-times.field-0.0 c.in_err-times.ensures.fault)

pub returns-in_err-effect-clause-fault : goal.returns-in_err-effect-clause-fault
returns-in_err-effect-clause-fault c =
    let p = err_from_is_err_and c.from_residual-in_err-effect.result c.from_residual-in_err-effect.ensures.1 in
    rw (p.1, p.2) (effect_decides (ten_texts cow_slice_items c.args.fields.now (omega arith) (omega arith)
    c.name-item.is c.from-item.is c.to-item.is c.reserved-item.is c.month-item.is c.day-item.is c.time-item.is c.saved-item.is c.letter-item.is
    c.as_slice.ensures.value c.as_slice-2.ensures.value c.as_slice-3.ensures.value c.as_slice-4.ensures.value c.as_slice-5.ensures.value c.as_slice-6.ensures.value c.as_slice-7.ensures.value c.as_slice-8.ensures.value c.as_slice-9.ensures.value)
    (c.in-Some.ensures.just.0 refl) c.in_ok-times.times c.in_ok-times.ensures.says ∙ c.in_err-effect.ensures.fault)

pub returns-clause-ok : goal.returns-clause-ok
returns-clause-ok c =
    effect_decides (ten_texts cow_slice_items c.args.fields.now (omega arith) (omega arith)
    c.name-item.is c.from-item.is c.to-item.is c.reserved-item.is c.month-item.is c.day-item.is c.time-item.is c.saved-item.is c.letter-item.is
    c.as_slice.ensures.value c.as_slice-2.ensures.value c.as_slice-3.ensures.value c.as_slice-4.ensures.value c.as_slice-5.ensures.value c.as_slice-6.ensures.value c.as_slice-7.ensures.value c.as_slice-8.ensures.value c.as_slice-9.ensures.value)
    (c.in-Some.ensures.just.0 refl) c.in_ok-times.times c.in_ok-times.ensures.says ∙ effect_passes _ _ c.in_ok-effect.effect c.in_ok-effect.ensures.says

pub returns-clause-says : goal.returns-clause-says
returns-clause-says c =
    wrapped entries.Rule (IsRuleLine c.args.place (texts_of c.args.fields.now)) (IsOtherLine c.args.place (texts_of c.args.fields.now)) c.rule_of.result c.map.result c.map.ensures.cases (λ rule is. (is, refl))
    (rule_made c.args.place c.in_ok-times.times c.in_ok-effect.effect c.rule_of.result c.in-Some.name
    (ten_texts cow_slice_items c.args.fields.now (omega arith) (omega arith)
    c.name-item.is c.from-item.is c.to-item.is c.reserved-item.is c.month-item.is c.day-item.is c.time-item.is c.saved-item.is c.letter-item.is
    c.as_slice.ensures.value c.as_slice-2.ensures.value c.as_slice-3.ensures.value c.as_slice-4.ensures.value c.as_slice-5.ensures.value c.as_slice-6.ensures.value c.as_slice-7.ensures.value c.as_slice-8.ensures.value c.as_slice-9.ensures.value)
    c.requires (c.in-Some.ensures.just.0 refl) c.in_ok-times.ensures.says c.in_ok-effect.ensures.says
    c.in-Some.ensures.name c.rule_of.ensures.name c.rule_of.ensures.parts)
