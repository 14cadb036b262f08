use Rattle.std.proofs.Common.{◌+◌, ◌≤◌, ℕ, Some, length, sym, subst, arith, w64}
use Rattle.std.specs.Int.{trailing_zeros}
use Rattle.memchr.specs.Find.{IsFirst, Passes}
use Rattle.zic_columns.specs.code.Block.{ends_field}
use Rattle.zic_columns.proofs.Masks.{first_in_mask}
use Rattle.zic_columns.proofs.blocks.near_field_end.Goals as goal

pub returns : goal.returns
returns c =
    let bytes = c.args.bytes.now in
    let from = c.args.from in
    let is = c.field_ends_at-ends.ensures in
    let within : from + 32 ≤ length bytes = omega (arith, c.requires, c.if-bytes-from-lt-BLOCK.false) in
    subst (λ (m : ℕ). IsFirst (Passes (ends_field c.args.delimiter.byte) bytes) from (length bytes) (Some (from + trailing_zeros w64 m))) (sym is)
    (first_in_mask (ends_field c.args.delimiter.byte) bytes from within (omega (arith, c.if-ends-eq0.false, is)))
