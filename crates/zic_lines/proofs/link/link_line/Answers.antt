use Rattle.std.proofs.Common.{◌∙◌, arith, refl, ap, List, ℕ}
use Rattle.std.specs.Cow.{cow_slice_items}
use Rattle.zic_base.specs.Check.{first_failed}
use Rattle.zic_lines.specs.Checks.{link_checks}
use Rattle.zic_lines.specs.declared.entry.Entry.TheVariants as entries
use Rattle.zic_lines.specs.LinkLine.{IsLinkLine}
use Rattle.zic_lines.specs.code.Entries.{IsOtherLine}
use Rattle.zic_lines.specs.code.Texts.{texts_of}
use Rattle.zic_lines.proofs.Parsed.{refused, wrapped}
use Rattle.zic_lines.proofs.Shapes.{three_texts}
use Rattle.zic_lines.proofs.LinkLines.{link_made}
use Rattle.zic_lines.proofs.link.link_line.Goals as goal

pub returns-in_default-parse-clause-fault : goal.returns-in_default-parse-clause-fault
returns-in_default-parse-clause-fault c =
    ap (λ (ts : List (List ℕ)). first_failed (link_checks ts)) (three_texts cow_slice_items c.args.fields.now (omega arith) (omega arith) c.target-item.is c.name-item.is c.as_slice.ensures.value refl)
    ∙ rw (refused _ c.in_default-parse.ensures.just) refl

pub returns-in_default-parse-2-clause-fault : goal.returns-in_default-parse-2-clause-fault
returns-in_default-parse-2-clause-fault c =
    ap (λ (ts : List (List ℕ)). first_failed (link_checks ts)) (three_texts cow_slice_items c.args.fields.now (omega arith) (omega arith) c.target-item.is c.name-item.is c.as_slice.ensures.value c.as_slice-2.ensures.value)
    ∙ rw (c.in-Some.ensures.just.0 refl, refused _ c.in_default-parse-2.ensures.just) refl

pub returns-clause-ok : goal.returns-clause-ok
returns-clause-ok c =
    ap (λ (ts : List (List ℕ)). first_failed (link_checks ts)) (three_texts cow_slice_items c.args.fields.now (omega arith) (omega arith) c.target-item.is c.name-item.is c.as_slice.ensures.value c.as_slice-2.ensures.value)
    ∙ rw (c.in-Some.ensures.just.0 refl, c.in-Some-parse.ensures.just.0 refl) refl

pub returns-clause-says : goal.returns-clause-says
returns-clause-says c =
    wrapped entries.Link (IsLinkLine c.args.place (texts_of c.args.fields.now)) (IsOtherLine c.args.place (texts_of c.args.fields.now)) c.link_of.result c.map.result c.map.ensures.cases (λ link is. (is, refl))
    (link_made c.args.place c.link_of.result c.in-Some.target c.in-Some-parse.name
    (three_texts cow_slice_items c.args.fields.now (omega arith) (omega arith) c.target-item.is c.name-item.is c.as_slice.ensures.value c.as_slice-2.ensures.value)
    c.requires (c.in-Some.ensures.just.0 refl) (c.in-Some-parse.ensures.just.0 refl) c.in-Some.ensures.name c.in-Some-parse.ensures.name
    c.link_of.ensures.place c.link_of.ensures.target c.link_of.ensures.name)
