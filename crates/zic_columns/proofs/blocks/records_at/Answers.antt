use Rattle.std.proofs.Common.{◌≡◌, ◌+◌, ◌-◌, ◌*◌, ◌%◌, ◌^◌, ℕ, Bool, cond, true, take, sym, ap, subst, ◌∙◌, arith, bit_and}
use Rattle.std.specs.Int.RustNames.{count_ones}
use Rattle.std.specs.Simd.Lanes.{chunk}
use Rattle.zic_columns.specs.code.Block.{is_after_line, records_ended}
use Rattle.zic_columns.proofs.Masks.{bool_is, ends_masked, none_in_mask}
use Rattle.zic_columns.proofs.blocks.records_at.Goals as goal

pub returns-clause-plain : goal.returns-clause-plain
returns-clause-plain c = none_in_mask c.args.bytes.now c.args.at c.requires (sym c.wide_quotes_at.ensures ∙ c.if-wide_quotes_at-ne0.false)

pub returns-clause-count : goal.returns-clause-count
returns-clause-count c =
    let bytes = c.args.bytes.now in
    let at = c.args.at in
    let ends = c.line_ends_at-ends.result in
    let follow = (ends * 2 % 2 ^ 64 + c.from.result) % 2 ^ 64 in
    let before = is_after_line true (take at bytes) in
    let one : c.from.result ≡ cond before 1 0 = c.from.ensures ∙ bool_is c.begins_line.result ∙ ap (λ (b : Bool). cond {A = ℕ} b 1 0) c.begins_line.ensures in
    subst (λ (m : ℕ). count_ones (bit_and m (2 ^ 64 - 1 - follow)) ≡ records_ended before (chunk at 64 bytes)) (sym c.line_ends_at-ends.ensures)
    (ends_masked before bytes at c.requires follow (omega (arith, c.line_ends_at-ends.ensures, one)))
