use Rattle.std.proofs.Common.{◌≡◌, ◌<◌, ◌-◌, ◌∙◌, length, sym, ap, arith, w8, Some}
use Rattle.std.specs.List.{slice_range}
use Rattle.std.specs.Simd.Lanes.{Each1}
use Rattle.std.proofs.lemmas.List.Edits.{length-between}
use Rattle.std.proofs.lemmas.Simd.{below_from_Fits, chunk-fits}
use Rattle.zic_row_text.specs.code.Lanes.{lanes_of, lane_value}
use Rattle.zic_row_text.proofs.Lanes.{number_of_lanes}
use Rattle.zic_row_text.proofs.wide.wide_number.Goals as goal

pub returns : goal.returns
returns c =
    let bytes = c.args.bytes.now in
    let start = c.args.start in
    let end = c.args.end in
    let text = slice_range bytes start end in
    let size : length text ≡ end - start = length-between bytes start end (omega arith) in
    let low : Each1 (λ x. x < 10) (lanes_of text) = rw c.lanes-digits.ensures at (c.are_digits.ensures c.if-not-are_digits.false) in
    number_of_lanes text (omega (arith, size)) (omega (arith, size)) (below_from_Fits w8 text (chunk-fits w8 start (end - start) bytes c.type_inv.bytes)) low
    ∙ ap Some (sym (c.value.ensures ∙ ap lane_value c.lanes-digits.ensures))
