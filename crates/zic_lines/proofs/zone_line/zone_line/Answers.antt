use Rattle.std.proofs.Common.{◌∙◌, arith, refl}
use Rattle.std.proofs.lemmas.Result.{err_from_is_err_and}
use Rattle.std.specs.Cow.{cow_slice_items}
use Rattle.zic_lines.proofs.Parsed.{refused}
use Rattle.zic_lines.proofs.Shapes.{five_texts, few}
use Rattle.zic_lines.proofs.ZoneLines.{no_zone_name, part_decides, zone_made}
use Rattle.zic_lines.proofs.zone_line.zone_line.Goals as goal

pub returns-in_default-parse-clause-fault : goal.returns-in_default-parse-clause-fault
returns-in_default-parse-clause-fault c =
    no_zone_name (five_texts cow_slice_items c.args.fields.now (omega arith) c.name-item.is c.stdoff-item.is c.rules-item.is c.format-item.is c.as_slice.ensures.value refl refl refl) (few cow_slice_items _ c.if-until-gt4.false) (refused _ c.in_default-parse.ensures.just)

pub returns-in_err-line-clause-fault : goal.returns-in_err-line-clause-fault
returns-in_err-line-clause-fault c =
    let p = err_from_is_err_and c.from_residual.result c.from_residual.ensures.1 in
    rw (p.1, p.2) (part_decides (five_texts cow_slice_items c.args.fields.now (omega arith) c.name-item.is c.stdoff-item.is c.rules-item.is c.format-item.is c.as_slice.ensures.value c.as_slice-2.ensures.value c.as_slice-3.ensures.value c.as_slice-4.ensures.value) (few cow_slice_items _ c.if-until-gt4.false)
    (c.in-Some.ensures.just.0 refl) ∙ c.in_err-line.ensures.fault)

pub returns-clause-ok : goal.returns-clause-ok
returns-clause-ok c =
    part_decides (five_texts cow_slice_items c.args.fields.now (omega arith) c.name-item.is c.stdoff-item.is c.rules-item.is c.format-item.is c.as_slice.ensures.value c.as_slice-2.ensures.value c.as_slice-3.ensures.value c.as_slice-4.ensures.value) (few cow_slice_items _ c.if-until-gt4.false)
    (c.in-Some.ensures.just.0 refl) ∙ c.in_ok-line.ensures.ok

pub returns-clause-says : goal.returns-clause-says
returns-clause-says c =
    zone_made (five_texts cow_slice_items c.args.fields.now (omega arith) c.name-item.is c.stdoff-item.is c.rules-item.is c.format-item.is c.as_slice.ensures.value c.as_slice-2.ensures.value c.as_slice-3.ensures.value c.as_slice-4.ensures.value) (few cow_slice_items _ c.if-until-gt4.false)
    c.args.place c.named.result c.in-Some.name c.in_ok-line.line c.requires (c.in-Some.ensures.just.0 refl) c.in-Some.ensures.name c.in_ok-line.ensures.says c.named.ensures
