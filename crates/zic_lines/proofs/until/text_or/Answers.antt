use Rattle.std.proofs.Common.{◌≤◌, length, map, ap, sym, ◌∙◌}
use Rattle.std.proofs.lemmas.List.{get_or-map, get_or_past, length-map}
use Rattle.std.specs.Cow.{cow_slice_items}
use Rattle.zic_lines.proofs.until.text_or.Goals as goal

pub returns-then-index-fields : goal.returns-then-index-fields
returns-then-index-fields c =
    let field = c.index-fields-index in
    c.as_slice.ensures.value ∙ ap cow_slice_items field.is
    ∙ sym (get_or-map cow_slice_items c.args.fields.now c.args.index field.result c.args.missing.now c.if-index-fields.true)

pub returns-else-index-fields : goal.returns-else-index-fields
returns-else-index-fields c =
    let past : length (map cow_slice_items c.args.fields.now) ≤ c.args.index = rw (length-map c.args.fields.now cow_slice_items) c.if-index-fields.false in
    sym (get_or_past (map cow_slice_items c.args.fields.now) c.args.index c.args.missing.now past)
