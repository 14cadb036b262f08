use Rattle.std.proofs.Common.{◌∙◌, FitsSigned, codes, rules, w32, w64}
use Rattle.std.proofs.lemmas.Int.{to_z-of_z}
use Rattle.std.specs.Fmt.{signed_decimal}
use Rattle.zic_base.specs.Digits.{offset_text}
use Rattle.zic_bulk.proofs.LocalLines.{gap_joined}
use Rattle.zic_bulk.proofs.show_local_command.gap_line.Goals as goal

pub returns : goal.returns
returns c =
    let gap = c.args.gap.now in
    let fits : FitsSigned w64 gap.change = search rules in
    let fits_before : FitsSigned w32 gap.before = search rules in
    let fits_after : FitsSigned w32 gap.after = search rules in
    let digits = simp to_z-of_z at c.format.ensures.text in
    let before = simp to_z-of_z at c.offset_text.ensures in
    let after = simp to_z-of_z at c.offset_text-2.ensures in
    gap_joined c.in_ok-line.line.items c.extend_from_slice.new.self.items c.push.new.self.items c.extend_from_slice-2.new.self.items c.push-2.new.self.items
    c.extend_from_slice-3.new.self.items c.push-3.new.self.items (codes "gap ") (signed_decimal gap.change) (offset_text gap.before) (offset_text gap.after)
    c.in_ok-line.ensures.items (rw (c.as_bytes.ensures.value ∙ digits) at c.in_ok-extend_from_slice.ensures.items) c.in_ok-push.ensures.items
    (rw before at c.in_ok-extend_from_slice-2.ensures.items) c.in_ok-push-2.ensures.items (rw after at c.in_ok-extend_from_slice-3.ensures.items) c.in_ok-push-3.ensures.items
